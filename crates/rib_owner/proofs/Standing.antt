-- The maps of an owner's groups after one more change.
use Rattle.std.proofs.Common.{ℕ, ◌≡◌, ◌≢◌, ◌∙◌, ◌*◌, ◌/◌, ◌%◌, ◌<◌, ◌≤◌, true, false, List, [], ◌∷◌, ◌++◌, length, get_or, set, refl, sym, ap, subst, arith, ⊎_elim}
use Rattle.std.specs.Prelude.{IsPermutation}
use Rattle.std.proofs.lemmas.List.Sorted.{IsPermutation-sym, IsPermutation-trans}
use Rattle.std.proofs.lemmas.Bool.{and_from, and_left, and_right, cases_eq, eq-eqb, ne_eqb}
use Rattle.std.proofs.lemmas.List.{get_or-set_other, get_or-set_same}
use Rattle.flow_types.specs.declared.record.Flow.{Flow}
use Rattle.flow_types.specs.Map.{AreDistinct}
use Rattle.flow_types.specs.Size.{Size}
use Rattle.hash_family.specs.Hash.{place}
use Rattle.group_search.specs.Home.{Home, opening}
use Rattle.group_history.specs.declared.change.Change.{Change}
use Rattle.group_history.specs.Change.{concerns, step}
use Rattle.group_history.proofs.Versions.{now_other, now_own}
use Rattle.group_history.specs.History.{map_now}
use Rattle.rib_owner.specs.Rib.{IsPartOf, IsRibOf, Part, Rib, map_in, no_part, part_of}
use Rattle.rib_owner.proofs.AnyOrder.{distinct_permuted, step_permuted}
use Rattle.rib_owner.proofs.Counted.{map_beside, map_here, with_map}

module _ (size : Size) (flows : List Flow) (changes : List Change) (change : Change) where
  own : (at : Home) → concerns at change ≡ true → map_now size flows (changes ++ change ∷ []) at ≡ step (map_now size flows changes at) change
  unfolding map_now
  own at is = now_own at (opening size.blocks flows at) changes change is

  other : (at : Home) → concerns at change ≡ false → map_now size flows (changes ++ change ∷ []) at ≡ map_now size flows changes at
  unfolding map_now
  other at is = now_other at (opening size.blocks flows at) changes change is

  -- a part of another block stands as it is
  pub part_other : (block : ℕ) (part : Part) → change.block ≢ block → IsPartOf size flows changes block part → IsPartOf size flows (changes ++ change ∷ []) block part
  part_other block part ne is = record {
    choices = is.choices;
    maps = λ group low.
        subst (λ (m : List Flow). IsPermutation m (map_in part group)) (sym (other (record { block = block; group = group }) (and_left _ _ (ne_eqb change.block block ne)))) (is.maps group low);
  }

  -- the part of the change's block has the group's new map
  pub part_own : (block rows : ℕ) (part : Part) (map : List Flow) → change.block ≡ block → change.group < 64 → length part.maps ≡ 64 → length part.rows ≡ 64
      → AreDistinct (map_in part change.group) → IsPermutation (step (map_in part change.group) change) map → IsPartOf size flows changes block part
      → IsPartOf size flows (changes ++ change ∷ []) block (with_map part change.group map rows)
  part_own block rows part map same low maps_there rows_there distinct stepped is = record {
    choices = is.choices;
    maps = λ group within. ⊎_elim
        (λ (eq : change.group ≡ group).
        let at : Home = record { block = block; group = group } in
        let before : List Flow = map_now size flows changes (record { block = block; group = group }) in
        let here : IsPermutation before (map_in part change.group) = rw eq (is.maps group within) in
        let new : IsPermutation (step before change) map =
        IsPermutation-trans (step before change) (step (map_in part change.group) change) map
        (step_permuted before (map_in part change.group) here
        (distinct_permuted (map_in part change.group) before (IsPermutation-sym before (map_in part change.group) here) distinct) change)
        stepped in
        let is_there : map_in (with_map part change.group map rows) group ≡ map =
        ap (map_in (with_map part change.group map rows)) (sym eq) ∙ map_here part change.group rows map low maps_there rows_there in
        rw (own at (and_from _ _ (eq-eqb change.block block same) (eq-eqb change.group group eq)), is_there) new)
        (λ (ne : change.group ≢ group).
        let at : Home = record { block = block; group = group } in
        rw (other at (and_right _ _ (ne_eqb change.group group ne)), map_beside part change.group rows map low maps_there rows_there group (λ e. ne (sym e)))
        (is.maps group within))
        (cases_eq change.group group);
  }

-- two blocks of one owner at one place among its blocks are one block
same_block : (nodes a b : ℕ) → 1 ≤ nodes → a % nodes ≡ b % nodes → a / nodes ≡ b / nodes → a ≡ b
same_block nodes a b some rest place =
    let whole : nodes * (a / nodes) ≡ nodes * (b / nodes) = ap (λ (q : ℕ). nodes * q) place in
    omega arith

module _ (flows : List Flow) (rib : Rib) (change : Change) (rows spare : ℕ) (some : 1 ≤ rib.size.nodes)
    (owned : change.block % rib.size.nodes ≡ rib.number) (inside : change.block / rib.size.nodes < length rib.parts) (low : change.group < 64)
    (maps_there : length (part_of rib change.block).maps ≡ 64) (rows_there : length (part_of rib change.block).rows ≡ 64)
    (distinct : AreDistinct (map_in (part_of rib change.block) change.group))
    (map : List Flow) (stepped : IsPermutation (step (map_in (part_of rib change.block) change.group) change) map) where
  -- the owner with the change made
  abbrev pub with_change : Rib
  with_change =
      let part = part_of rib change.block in
      record {
        size = rib.size;
        number = rib.number;
        parts = set rib.parts (change.block / rib.size.nodes) (with_map part change.group map rows);
        journal = record { changes = rib.journal.changes ++ change ∷ []; spare = spare };
      }

  stands_at : (block : ℕ) → block < rib.size.blocks → block % rib.size.nodes ≡ rib.number → IsRibOf rib.size flows rib
      → IsPartOf rib.size flows (rib.journal.changes ++ change ∷ []) block (part_of with_change block)
  stands_at block there owns is =
      let part = part_of rib change.block in
      let new : Part = with_map part change.group map rows in
      ⊎_elim
      (λ (same : change.block ≡ block).
      let place : block / rib.size.nodes ≡ change.block / rib.size.nodes = ap (λ (b : ℕ). b / rib.size.nodes) (sym same) in
      let got : part_of with_change block ≡ new =
      ap (λ (p : ℕ). get_or (set rib.parts (change.block / rib.size.nodes) new) p no_part) place ∙ get_or-set_same rib.parts (change.block / rib.size.nodes) new no_part inside in
      rw got
      (part_own rib.size flows rib.journal.changes change block rows part map same low maps_there rows_there distinct stepped
      (rw same (is.parts block there owns))))
      (λ (ne : change.block ≢ block).
      let apart : block / rib.size.nodes ≢ change.block / rib.size.nodes = λ e. ne (sym (same_block rib.size.nodes block change.block some (owns ∙ sym owned) e)) in
      let got : part_of with_change block ≡ part_of rib block = get_or-set_other rib.parts (change.block / rib.size.nodes) (block / rib.size.nodes) new no_part apart in
      rw got (part_other rib.size flows rib.journal.changes change block (part_of rib block) ne (is.parts block there owns)))
      (cases_eq change.block block)

  -- it stands as the flows and the longer journal say
  pub stands_with : IsRibOf rib.size flows rib → IsRibOf rib.size flows with_change
  stands_with is = record { sized = refl; parts = λ block there owns. stands_at block there owns is }

  -- so does any owner that has these parts and these changes
  pub stands_for : (new : Rib) → new.size ≡ rib.size → new.number ≡ rib.number
      → new.parts ≡ set rib.parts (change.block / rib.size.nodes) (with_map (part_of rib change.block) change.group map rows)
      → new.journal.changes ≡ rib.journal.changes ++ change ∷ [] → IsRibOf rib.size flows rib → IsRibOf rib.size flows new
  stands_for new size_is number_is parts_are changes_are is = record {
    sized = size_is;
    parts = λ block there owns.
        let got : part_of new block ≡ part_of with_change block =
        ap (λ (s : Size). get_or new.parts (block / s.nodes) no_part) size_is ∙ ap (λ (ps : List Part). get_or ps (block / rib.size.nodes) no_part) parts_are in
        rw (got, changes_are) (stands_at block there (owns ∙ number_is) is);
  }
