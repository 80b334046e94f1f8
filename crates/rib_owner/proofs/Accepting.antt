-- What an accepted update leaves of its block, and what an owner answers.
use Rattle.std.proofs.Common.{ℕ, ◌≡◌, ◌≢◌, ◌∙◌, ◌+◌, ◌*◌, ◌/◌, ◌%◌, ◌≤◌, ◌<◌, ◌++◌, ◌∷◌, [], List, length, map, get_or, set, Option, Some, None, Result, Ok, Err, sym, ap, subst, arith}
use Rattle.std.specs.Prelude.{IsPermutation, OnErr}
use Rattle.std.proofs.lemmas.List.Sorted.{length_permutation}
use Rattle.std.specs.Result.{IsErrAnd}
use Rattle.std.proofs.lemmas.List.{get_or_default, length-set, map-set, set-get_or}
use Rattle.std.proofs.Math.ListN.{get_or-map}
use Rattle.std.proofs.lemmas.List.Elements.{All-set}
use Rattle.flow_types.specs.declared.key.FlowKey.{FlowKey}
use Rattle.flow_types.specs.declared.record.Flow.{Flow}
use Rattle.flow_types.specs.declared.record.Record.{Record}
use Rattle.flow_types.specs.Map.{flow_at}
use Rattle.flow_types.specs.Size.{value_bits}
use Rattle.flow_types.specs.Limits.{most_turns}
use Rattle.hash_family.specs.Hash.{place}
use Rattle.group_search.specs.declared.record.GroupRecord.{GroupRecord}
use Rattle.group_search.specs.Canon.{canonical, rows_in}
use Rattle.group_search.specs.Home.{Home, group_of}
use Rattle.group_search.specs.Records.{entries}
use Rattle.group_search.proofs.NeededRows.{rows_of_canonical}
use Rattle.group_history.specs.declared.change.Change.{Change}
use Rattle.group_history.specs.Change.{step}
use Rattle.group_history.proofs.Versions.{distinct-step}
use Rattle.group_history.specs.declared.refused.UpdateRefused.{UpdateRefused}
use Rattle.rib_owner.specs.declared.turn.Turn.{Turn}
use Rattle.group_history.specs.declared.update.Update.{Update}
use Rattle.group_history.specs.Acceptance.{change_at, grounds, grounds_in, updated_key, refusal, refusal_of_place, wanted}
use Rattle.rib_owner.specs.Judging.{IsFor, refusal_in_rows}
use Rattle.rib_owner.specs.Part.{IsKeptPart, IsOwner, rows_free}
use Rattle.group_search.specs.Owned.{IsOwned}
use Rattle.rib_owner.specs.Rib.{IsPartOf, IsRibOf, Part, Rib, group_in, map_in, no_part, part_of}
use Rattle.rib_owner.specs.Stock.{ChangesGroup, Stock, maps_of, part_in}
use Rattle.rib_owner.specs.Turn.{IsTurn, plan_of}
use Rattle.rib_owner.proofs.AnyOrder.{distinct_permuted, rows_alike_in}
use Rattle.rib_owner.proofs.Answering.{answer_accepted, answer_place, answer_rows, turn_is}
use Rattle.rib_owner.proofs.Counted.{map_within, with_map}
use Rattle.rib_owner.proofs.Judged.{few_after}
use Rattle.rib_owner.proofs.Kept.{kept_with}
use Rattle.rib_owner.proofs.Standing.{stands_for}
use Rattle.rib_owner.specs.Decision.{IsSeen}

module _ (bits turns : ℕ) (at : Home) (part : Part) (update : Update) (kept : IsKeptPart bits part) (low : at.group < 64)
    (there : refusal_of_place update (grounds_in bits turns at (map_in part) update) ≡ None) where
  -- the new map has at most as many keys as a block may
  pub small_after : length (step (map_in part at.group) (change_at at update)) ≤ 1536
  small_after = omega (arith, few_after bits turns at part kept update there, map_within (map_in part) at.group low, kept.few)

  pub kept_after : (content : GroupRecord) (map : List Flow) (rows : ℕ) → IsPermutation (step (map_in part at.group) (change_at at update)) map
      → canonical bits (entries (step (map_in part at.group) (change_at at update))) ≡ Some content → rows ≡ rows_in content → rows_in content ≤ rows_free part at.group
      → IsKeptPart bits (with_map part at.group map rows)
  kept_after content map rows map_is content_is rows_are room =
      kept_with bits part at.group rows map low kept
      (distinct_permuted (step (map_in part at.group) (change_at at update)) map map_is (distinct-step (map_in part at.group) (change_at at update) (kept.distinct at.group)))
      (omega (arith, few_after bits turns at part kept update there, length_permutation (step (map_in part at.group) (change_at at update)) map map_is))
      (rows_are ∙ rows_of_canonical (entries (step (map_in part at.group) (change_at at update))) bits content content_is
      ∙ rows_alike_in bits (step (map_in part at.group) (change_at at update)) map map_is)
      (omega arith)

-- ---- what an owner sees of an update

pub part_there : (rib held : Rib) → held ≡ rib → (block index : ℕ) → index ≡ block / rib.size.nodes → index < length rib.parts
    → (found : Part) → found ≡ get_or held.parts index found → found ≡ part_of rib block
part_there rib held same block index index_is inside found found_is =
    found_is ∙ ap (λ (r : Rib). get_or r.parts index found) same ∙ get_or_default rib.parts index found no_part inside
    ∙ ap (λ (i : ℕ). get_or rib.parts i no_part) index_is

pub seen : (rib held : Rib) → held ≡ rib → (update : Update) (key : FlowKey) → key ≡ updated_key update → (block group index : ℕ)
    → block ≡ (place rib.size.blocks key).block → index ≡ block / rib.size.nodes → index < length rib.parts
    → group ≡ group_in (part_of rib block) rib.size.blocks key → group < 64
    → (found : Part) → found ≡ get_or held.parts index found → (to : Option (ℕ × Record)) → to ≡ wanted update
    → IsSeen rib update block group index found (record { block = block; group = group; key = key; to = to })
seen rib held same update key key_is block group index block_is index_is inside group_is low found found_is to to_is =
    record {
      block_is = block_is ∙ ap (λ (k : FlowKey). (place rib.size.blocks k).block) key_is;
      index_is = index_is;
      inside = inside;
      group_is = group_is ∙ ap (group_in (part_of rib block) rib.size.blocks) key_is;
      low = low;
      found_is = part_there rib held same block index index_is inside found found_is;
      change_is = ap (λ (k : FlowKey). change_with block group k to) key_is ∙ ap (change_with block group (updated_key update)) to_is;
    } where
      change_with : ℕ → ℕ → FlowKey → Option (ℕ × Record) → Change
      change_with b g k t = record { block = b; group = g; key = k; to = t }

module _ (rib : Rib) (update : Update) (block group index : ℕ) (found : Part) (change : Change) (is_seen : IsSeen rib update block group index found change)
    (owned : IsOwned rib.size rib.number (updated_key update)) (some : 1 ≤ rib.size.nodes) (sound : IsOwner rib.size rib.number rib.parts) where
  below : block < rib.size.blocks → (flows : List Flow) → IsRibOf rib.size flows rib → IsPartOf rib.size flows rib.journal.changes block found
  below low flows is =
      rw is_seen.found_is (is.parts block low (ap (λ (b : ℕ). b % rib.size.nodes) is_seen.block_is ∙ owned))

  found_group : group ≡ group_in found rib.size.blocks (updated_key update)
  found_group = is_seen.group_is ∙ ap (λ (p : Part). group_in p rib.size.blocks (updated_key update)) (sym is_seen.found_is)

  pub found_kept : IsKeptPart (value_bits rib.size.nodes) found
  found_kept =
      rw (is_seen.found_is, ← is_seen.index_is) (sound.kept index no_part is_seen.inside)

  module _ (there : (bits turns : ℕ) → refusal_of_place update (grounds_in bits turns (record { block = block; group = group }) (map_in found) update) ≡ None) where
    pub seen_small : length (step (map_in found group) change) ≤ 1536
    seen_small =
        rw is_seen.change_is
        (small_after (value_bits rib.size.nodes) 0 (record { block = block; group = group }) found update found_kept is_seen.low (there (value_bits rib.size.nodes) 0))

    pub seen_owner : (content : GroupRecord) (map : List Flow) (rows : ℕ) (new : Part) → IsPermutation (step (map_in found group) change) map
        → canonical (value_bits rib.size.nodes) (entries (step (map_in found group) change)) ≡ Some content → rows ≡ rows_in content → rows_in content ≤ rows_free found group
        → new ≡ with_map found group map rows → IsOwner rib.size rib.number (set rib.parts index new)
    seen_owner content map rows new map_is content_is rows_are room new_is =
        let kept : IsKeptPart (value_bits rib.size.nodes) (with_map found group map rows) =
        kept_after (value_bits rib.size.nodes) 0 (record { block = block; group = group }) found update found_kept is_seen.low (there (value_bits rib.size.nodes) 0)
        content map rows (subst (λ (c : Change). IsPermutation (step (map_in found group) c) map) is_seen.change_is map_is)
        (ap (λ (c : Change). canonical (value_bits rib.size.nodes) (entries (step (map_in found group) c))) (sym is_seen.change_is) ∙ content_is) rows_are room in
        record {
          enough = omega (arith, sound.enough, ap (λ (n : ℕ). rib.size.nodes * n) (length-set rib.parts index new));
          kept = rw new_is (All-set (IsKeptPart (value_bits rib.size.nodes)) rib.parts index (with_map found group map rows) kept sound.kept);
        }

  -- ---- answers

  module _ (low : (place rib.size.blocks (updated_key update)).block < rib.size.blocks) (flows : List Flow) (is : IsRibOf rib.size flows rib) where
    part : IsPartOf rib.size flows rib.journal.changes block found
    part = below (omega (arith, is_seen.block_is)) flows is

    module _ (left : length rib.journal.changes ≢ most_turns) where
      pub seen_place : (refused : UpdateRefused)
          → ((bits turns : ℕ) → IsFor (refusal_of_place update (grounds_in bits turns (record { block = block; group = group }) (map_in found) update)) refused)
          → IsFor (refusal update (grounds rib.size flows rib.journal.changes update)) refused
      seen_place refused for =
          answer_place rib.size flows rib.journal.changes update block found group is_seen.block_is part found_group is_seen.low found_kept left refused
          (for (value_bits rib.size.nodes) (length rib.journal.changes))

      module _ (there : (bits turns : ℕ) → refusal_of_place update (grounds_in bits turns (record { block = block; group = group }) (map_in found) update) ≡ None) where
        pub seen_rows : (refused : UpdateRefused) → IsFor (refusal_in_rows (value_bits rib.size.nodes) found change) refused
            → IsFor (refusal update (grounds rib.size flows rib.journal.changes update)) refused
        seen_rows refused for =
            answer_rows rib.size flows rib.journal.changes update block found group is_seen.block_is part found_group is_seen.low found_kept left
            (there (value_bits rib.size.nodes) (length rib.journal.changes)) refused
            (rw is_seen.change_is at for)

        pub seen_accepted : refusal_in_rows (value_bits rib.size.nodes) found change ≡ None → refusal update (grounds rib.size flows rib.journal.changes update) ≡ None
        seen_accepted none =
            answer_accepted rib.size flows rib.journal.changes update block found group is_seen.block_is part found_group is_seen.low found_kept left
            (there (value_bits rib.size.nodes) (length rib.journal.changes))
            (ap (refusal_in_rows (value_bits rib.size.nodes) found) (sym is_seen.change_is) ∙ none)

    pub seen_turn : (turn : Turn) → turn.number ≡ length rib.journal.changes + 1 → turn.change ≡ change
        → canonical (value_bits rib.size.nodes) (entries (step (map_in found group) change)) ≡ Some turn.content
        → turn.fib ≡ plan_of update (flow_at (updated_key update) (map_in found group)) → IsTurn rib.size flows rib.journal.changes update turn
    seen_turn turn number change_same content fib =
        turn_is rib.size flows rib.journal.changes update block found group is_seen.block_is part found_group is_seen.low found_kept turn number (change_same ∙ is_seen.change_is)
        (ap (λ (c : Change). canonical (value_bits rib.size.nodes) (entries (step (map_in found group) c))) change_same ∙ content) fib

    -- with the change made it stands as before
    pub seen_stands : (new : Rib) (map : List Flow) (rows : ℕ) (replaced : Part) → new.size ≡ rib.size → new.number ≡ rib.number → new.parts ≡ set rib.parts index replaced
        → replaced ≡ with_map found group map rows → IsPermutation (step (map_in found group) change) map
        → new.journal.changes ≡ rib.journal.changes ++ change ∷ [] → IsRibOf rib.size flows new
    seen_stands new map rows replaced size_is number_is parts_are replaced_is map_is changes_are =
        let block_same : change.block ≡ block = ap (λ (c : Change). c.block) is_seen.change_is in
        let group_same : change.group ≡ group = ap (λ (c : Change). c.group) is_seen.change_is in
        let found_same : found ≡ part_of rib change.block = is_seen.found_is ∙ ap (part_of rib) (sym block_same) in
        let owned_change : change.block % rib.size.nodes ≡ rib.number =
        ap (λ (b : ℕ). b % rib.size.nodes) (block_same ∙ is_seen.block_is) ∙ owned in
        let place_same : index ≡ change.block / rib.size.nodes = is_seen.index_is ∙ ap (λ (b : ℕ). b / rib.size.nodes) (sym block_same) in
        let inside : change.block / rib.size.nodes < length rib.parts = rw (← place_same) is_seen.inside in
        let kept : IsKeptPart (value_bits rib.size.nodes) (part_of rib change.block) = rw (← found_same) found_kept in
        let new_part : replaced ≡ with_map (part_of rib change.block) change.group map rows =
        replaced_is
        ∙ ap (λ (g : ℕ). with_map found g map rows) (sym group_same)
        ∙ ap (λ (p : Part). with_map p change.group map rows) found_same in
        let stepped : IsPermutation (step (map_in (part_of rib change.block) change.group) change) map =
        subst (λ (p : Part). IsPermutation (step (map_in p change.group) change) map) found_same
        (subst (λ (g : ℕ). IsPermutation (step (map_in found g) change) map) (sym group_same) map_is) in
        stands_for flows rib change rows 0 some owned_change inside (omega (arith, group_same, is_seen.low)) kept.one_map_each kept.one_number_each (kept.distinct change.group) map stepped
        new size_is number_is
        (parts_are ∙ ap (λ (p : Part). set rib.parts index p) new_part
        ∙ ap (λ (i : ℕ). set rib.parts i (with_map (part_of rib change.block) change.group map rows)) place_same)
        changes_are is

-- a result that is an error, and which one
pub err_is : {T : Type 0} (result : Result T UpdateRefused) (refused : UpdateRefused) → IsErrAnd result (λ e. e ≡ refused) → result ≡ Err refused
err_is (Ok x) refused is = absurd is
err_is (Err e) refused is = ap Err is

pub same_err : {T : Type 0} (result : Result T UpdateRefused) (a b : UpdateRefused) → result ≡ Err a → result ≡ Err b → a ≡ b
same_err result a b one other = cc

-- ---- what is left of a block when the change is made

-- the block is as it was, but for its group's map and rows
pub record IsChanged (found now : Part) (group rows : ℕ) (change : Change) : Type 0 where
  pub part_is : now ≡ with_map found group (map_in now group) rows
  pub map_is : IsPermutation (step (map_in found group) change) (map_in now group)

part_made : List ℕ → List (List Flow) → List ℕ → Part
part_made choices maps rows = record { choices = choices; maps = maps; rows = rows }

pub part_same : (a b : Stock) → a.choices ≡ b.choices → a.rows ≡ b.rows → a.arena.buckets ≡ b.arena.buckets → part_in a ≡ part_in b
unfolding part_made
part_same a b choices rows buckets =
    ap (λ (cs : List ℕ). part_made cs (maps_of cs a.arena.buckets) a.rows) choices
    ∙ ap (λ (ls : List (List Flow)). part_made b.choices (maps_of b.choices ls) a.rows) buckets
    ∙ ap (part_made b.choices (maps_of b.choices b.arena.buckets)) rows

pub changed : (stock between last : Stock) (found : Part) (bucket group rows : ℕ) (change : Change) → part_in stock ≡ found
    → between.choices ≡ stock.choices → between.rows ≡ stock.rows → between.arena.buckets ≡ stock.arena.buckets
    → last.choices ≡ between.choices → last.rows ≡ set between.rows (group_of between.choices bucket) rows
    → ChangesGroup (part_in between) (part_in last) (group_of between.choices bucket)
    → IsPermutation (step (map_in (part_in between) (group_of between.choices bucket)) change) (map_in (part_in last) (group_of between.choices bucket))
    → group ≡ group_of found.choices bucket → IsChanged found (part_in last) group rows change
unfolding part_made
changed stock between last found bucket group rows change found_is choices_kept rows_kept buckets_kept choices_are rows_are maps_are map_is group_is =
    let between_is : part_in between ≡ found = part_same between stock choices_kept rows_kept buckets_kept ∙ found_is in
    let same_group : group_of between.choices bucket ≡ group = ap (λ (p : Part). group_of p.choices bucket) between_is ∙ sym group_is in
    let maps_now : maps_of last.choices last.arena.buckets ≡ set found.maps group (map_in (part_in last) group) =
    subst (λ (g : ℕ). maps_of last.choices last.arena.buckets ≡ set found.maps g (map_in (part_in last) g)) same_group
    (maps_are ∙ ap (λ (p : Part). set p.maps (group_of between.choices bucket) (map_in (part_in last) (group_of between.choices bucket))) between_is) in
    let rows_now : last.rows ≡ set found.rows group rows =
    rows_are ∙ ap (λ (g : ℕ). set between.rows g rows) same_group ∙ ap (λ (p : Part). set p.rows group rows) between_is in
    record {
      part_is = ap (λ (cs : List ℕ). part_made cs (maps_of last.choices last.arena.buckets) last.rows) (choices_are ∙ ap (λ (p : Part). p.choices) between_is)
          ∙ ap (λ (ms : List (List Flow)). part_made found.choices ms last.rows) maps_now
          ∙ ap (part_made found.choices (set found.maps group (map_in (part_in last) group))) rows_now;
      map_is = subst (λ (p : Part). IsPermutation (step (map_in p group) change) (map_in (part_in last) group)) between_is
          (subst (λ (g : ℕ). IsPermutation (step (map_in (part_in between) g) change) (map_in (part_in last) g)) same_group map_is);
    }

-- an owner whose block has other room has the parts that it had
pub parts_same : (stocks : List Stock) (index : ℕ) (stock between : Stock) → stock ≡ get_or stocks index stock
    → between.choices ≡ stock.choices → between.rows ≡ stock.rows → between.arena.buckets ≡ stock.arena.buckets → map part_in (set stocks index between) ≡ map part_in stocks
parts_same stocks index stock between stock_is choices rows buckets =
    map-set part_in stocks index between
    ∙ ap (set (map part_in stocks) index) (part_same between stock choices rows buckets ∙ ap part_in stock_is ∙ sym (get_or-map part_in stocks index stock))
    ∙ set-get_or (map part_in stocks) index (part_in stock)

-- what holds holds after an error
pub on_err : {T E : Type 0} (result : Result T E) {P : Type 0} → P → OnErr result P
on_err (Ok x) p = tt
on_err (Err e) p = p
