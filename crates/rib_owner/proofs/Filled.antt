-- An owner's blocks, from the images of a build and flow after flow.
use Rattle.std.proofs.Common.{ℕ, add-zero, ◌≡◌, ◌≢◌, ◌∙◌, ◌+◌, ◌*◌, ◌/◌, ◌%◌, ◌<◌, ◌≤◌, Bool, true, false, cond, List, [], ◌∷◌, ◌++◌, length, take, get_or, set, Option, Some, None, refl, sym, ap, subst, arith, ⊎_elim, length-append}
use Rattle.std.specs.Prelude.{◌==◌, IsPermutation, filter, slice_index}
use Rattle.std.specs.List.{slice_get}
use Rattle.std.proofs.lemmas.Bool.{and_left, cases_eq, cases_lt, cases_order, eq-eqb, ne_eqb}
use Rattle.std.proofs.Math.Nat.{add-mul-mod_self_left, mod-eq_of_lt, mul-le-mul_left}
use Rattle.std.proofs.lemmas.List.{append-nil, get_or-set_other, get_or-set_same, get_or_append_left, get_or_default, get_or_past, get_or_push, length-set, take_all}
use Rattle.std.proofs.lemmas.List.Elements.{filter_more}
use Rattle.std.proofs.lemmas.List.Kept.{AllPairs-filter}
use Rattle.std.proofs.lemmas.List.Sums.{length-filter, sum_by-take-le}
use Rattle.std.proofs.lemmas.List.Sorted.{IsPermutation-append_left, IsPermutation-refl, IsPermutation-trans, length_permutation}
use Rattle.std.proofs.lemmas.Option.{slice_get-get_or}
use Rattle.flow_types.specs.declared.record.Flow.{Flow}
use Rattle.flow_types.specs.Map.{AreDistinct}
use Rattle.flow_types.specs.Size.{Size, value_bits}
use Rattle.flow_types.proofs.KeyedFlows.{HaveOtherKeys}
use Rattle.hash_family.specs.Hash.{place}
use Rattle.block_layout.specs.Candidate.{candidate}
use Rattle.group_search.specs.declared.record.GroupRecord.{GroupRecord}
use Rattle.group_search.specs.declared.record.GroupRecord.TheVariants.{Fallback}
use Rattle.group_search.specs.Build.{IsBuild, IsImage, IsWithin, PastLimit, TellsTheFirst, needed, past_limit, rows_needed}
use Rattle.group_search.specs.Canon.{rows_in}
use Rattle.group_search.specs.Home.{Home, choices, flows_of, group_of, home, is_home, is_in, opening}
use Rattle.group_search.specs.Image.{Image}
use Rattle.group_search.specs.Records.{content_of, entries, record_of}
use Rattle.group_search.proofs.FirstPastLimit.{names_the_first}
use Rattle.group_search.proofs.NeededRows.{rows_of_canonical}
use Rattle.group_history.specs.declared.change.Change.{Change}
use Rattle.group_history.specs.History.{changed, now, map_now}
use Rattle.group_history.specs.Journal.{Log, concerning}
use Rattle.group_history.specs.Acceptance.{keys_in}
use Rattle.rib_owner.specs.Opening.{AreFilled, IsFilled, read_of}
use Rattle.rib_owner.specs.Part.{IsKeptPart, IsOwner, rows_taken}
use Rattle.rib_owner.specs.Rib.{IsRibOf, Part, map_in, no_part}
use Rattle.rib_owner.specs.Stock.{ChangesGroup}
use Rattle.rib_owner.proofs.AnyOrder.{distinct_permuted, rows_alike_in}
use Rattle.rib_owner.proofs.Counted.{keys_with, no_keys}
use Rattle.rib_owner.proofs.Gathered.{nobody}
use Rattle.group_search.proofs.Sums.{from_same}

abbrev empty_map : List Flow
empty_map = []

no_content : GroupRecord
no_content = Fallback []

module _ (size : Size) (flows : List Flow) (images : List Image) (build : IsBuild size flows images) (block : ℕ) (below : block < size.blocks) where
  rows-case : (records : List GroupRecord) (group : ℕ) (rows : List ℕ) → length records ≡ 64 → group < 64
      → slice_get records group ≡ record_of size flows (record { block = block; group = group })
      → ((content : GroupRecord) → slice_get records group ≡ Some content → slice_index rows group ≡ rows_in content)
      → slice_index rows group ≡ rows_needed (value_bits size.nodes) (entries (opening size.blocks flows (record { block = block; group = group })))
  unfolding record_of content_of
  rows-case records group rows long low is rows_are =
      let there = slice_get-get_or records group no_content (omega arith) in
      rows_are (get_or records group no_content) there
      ∙ rows_of_canonical (entries (opening size.blocks flows (record { block = block; group = group }))) (value_bits size.nodes) (get_or records group no_content) (sym is ∙ there)

none_of_none : (blocks block : ℕ) → length (flows_of blocks block []) ≡ 0
unfolding flows_of
none_of_none blocks block = refl

module _ (size : Size) (flows : List Flow) (images : List Image) (build : IsBuild size flows images) (block : ℕ) (below : block < size.blocks) where
  -- a block of an image, before its flows are read
  pub opened_block : (image : Image) (part : Part) → image ≡ get_or images block image → part.choices ≡ image.choices → length part.maps ≡ 64
      → ((x : ℕ) → map_in part x ≡ []) → length part.rows ≡ 64 → ((group : ℕ) (content : GroupRecord) → group < 64 → slice_get image.records group ≡ Some content → slice_index part.rows group ≡ rows_in content)
      → IsFilled size flows [] block part
  opened_block image part image_is choices_are maps_are none long rows_are =
      let is : IsImage size flows block image = rw image_is (build.each block image below) in
      record {
        choices = choices_are ∙ is.choices;
        one_map_each = maps_are;
        one_number_each = long;
        maps = λ group low. rw (none group) (IsPermutation-refl empty_map);
        keys = no_keys (map_in part) none ∙ sym (none_of_none size.blocks block);
        rows = λ group low. rows-case size flows images build block below image.records group part.rows is.one_each low (is.records group low) (λ content there. rows_are group content low there);
      }

-- ---- one more flow is read

module _ (size : Size) (flows : List Flow) (i : ℕ) (inside : i < length flows) (block : ℕ) where
  flow : Flow
  flow = get_or flows i nobody

  read_more : (group : ℕ) (here : Bool) → is_home (home size.blocks flows (get_or flows i nobody).key) (record { block = block; group = group }) ≡ here
      → read_of size flows (take (i + 1) flows) block group ≡ read_of size flows (take i flows) block group ++ cond here (get_or flows i nobody ∷ []) []
  read_more group here e =
      filter_more (λ (f : Flow). is_home (home size.blocks flows f.key) (record { block = block; group = group })) flows i nobody inside
      ∙ ap (λ (b : Bool). read_of size flows (take i flows) block group ++ cond b (get_or flows i nobody ∷ []) []) e

  flows_more : (here : Bool) → is_in size.blocks block (get_or flows i nobody) ≡ here
      → length (flows_of size.blocks block (take (i + 1) flows)) ≡ length (flows_of size.blocks block (take i flows)) + cond here 1 0
  unfolding flows_of
  flows_more true e =
      ap length (filter_more (is_in size.blocks block) flows i nobody inside ∙ ap (λ (b : Bool). filter (is_in size.blocks block) (take i flows) ++ cond b (get_or flows i nobody ∷ []) []) e)
      ∙ length-append (filter (is_in size.blocks block) (take i flows)) (get_or flows i nobody ∷ [])
  flows_more false e =
      ap length (filter_more (is_in size.blocks block) flows i nobody inside ∙ ap (λ (b : Bool). filter (is_in size.blocks block) (take i flows) ++ cond b (get_or flows i nobody ∷ []) []) e)
      ∙ length-append (filter (is_in size.blocks block) (take i flows)) []

  apart_test : (group : ℕ) → (place size.blocks (get_or flows i nobody).key).block ≢ block
      → is_home (home size.blocks flows (get_or flows i nobody).key) (record { block = block; group = group }) ≡ false
  unfolding home
  apart_test group ne = and_left _ _ (ne_eqb _ block ne)

  here_test : (group own : ℕ) → (place size.blocks (get_or flows i nobody).key).block ≡ block
      → own ≡ group_of (choices size.blocks block flows) (place size.blocks (get_or flows i nobody).key).bucket
      → is_home (home size.blocks flows (get_or flows i nobody).key) (record { block = block; group = group }) ≡ (own == group)
  unfolding home
  here_test group own same own_is =
      rw (eq-eqb (place size.blocks (get_or flows i nobody).key).block block same)
      (ap (λ (b : ℕ). group_of (choices size.blocks b flows) (place size.blocks (get_or flows i nobody).key).bucket == group) same
      ∙ ap (λ (g : ℕ). g == group) (sym own_is))

  -- of another block
  pub filled_apart : (part : Part) → (place size.blocks (get_or flows i nobody).key).block ≢ block → IsFilled size flows (take i flows) block part
      → IsFilled size flows (take (i + 1) flows) block part
  filled_apart part ne is = record {
    choices = is.choices;
    one_map_each = is.one_map_each;
    one_number_each = is.one_number_each;
    maps = λ group low.
        subst (λ (m : List Flow). IsPermutation m (map_in part group)) (sym (read_more group false (apart_test group ne) ∙ append-nil (read_of size flows (take i flows) block group))) (is.maps group low);
    keys = is.keys ∙ sym (flows_more false (ne_eqb _ block ne) ∙ add-zero _);
    rows = is.rows;
  }

  -- of this block
  module _ (part new : Part) (own : ℕ) (same : (place size.blocks (get_or flows i nobody).key).block ≡ block) (low : own < 64)
      (own_is : own ≡ group_of part.choices (place size.blocks (get_or flows i nobody).key).bucket)
      (choices_same : new.choices ≡ part.choices) (rows_as_before : new.rows ≡ part.rows) (maps_changed : ChangesGroup part new own)
      (map_more : IsPermutation (map_in part own ++ get_or flows i nobody ∷ []) (map_in new own))
      (is : IsFilled size flows (take i flows) block part) where
    own_home : own ≡ group_of (choices size.blocks block flows) (place size.blocks (get_or flows i nobody).key).bucket
    own_home = own_is ∙ ap (λ (cs : List ℕ). group_of cs (place size.blocks (get_or flows i nobody).key).bucket) is.choices

    at_other : (x : ℕ) → x ≢ own → map_in new x ≡ map_in part x
    at_other x ne = ap (λ (ms : List (List Flow)). get_or ms x []) maps_changed ∙ get_or-set_other part.maps own x (map_in new own) [] ne

    at_own : IsPermutation (read_of size flows (take (i + 1) flows) block own) (map_in new own)
    at_own =
        rw (read_more own true (here_test own own same own_home ∙ eq-eqb own own refl))
        (IsPermutation-trans (read_of size flows (take i flows) block own ++ get_or flows i nobody ∷ []) (map_in part own ++ get_or flows i nobody ∷ []) (map_in new own)
        (IsPermutation-append_left (get_or flows i nobody ∷ []) (read_of size flows (take i flows) block own) (map_in part own) (is.maps own low))
        map_more)

    keys_more : keys_in (map_in new) ≡ keys_in (map_in part) + 1
    keys_more =
        let whole = keys_with part own 0 (map_in new own) low is.one_map_each is.one_number_each in
        let same_maps = ap (λ (ms : List (List Flow)). keys_in (λ (g : ℕ). get_or ms g [])) maps_changed in
        let longer = length_permutation (map_in part own ++ get_or flows i nobody ∷ []) (map_in new own) map_more in
        let one_more = length-append (map_in part own) (get_or flows i nobody ∷ []) in
        omega (arith, whole, same_maps, longer, one_more)

    pub filled_here : IsFilled size flows (take (i + 1) flows) block new
    filled_here = record {
      choices = choices_same ∙ is.choices;
      one_map_each = ap length maps_changed ∙ length-set part.maps own (map_in new own) ∙ is.one_map_each;
      one_number_each = ap length rows_as_before ∙ is.one_number_each;
      maps = λ group there. ⊎_elim
          (λ (eq : group ≡ own). rw eq at_own)
          (λ (ne : group ≢ own).
          rw (
            at_other group ne,
            read_more group false (here_test group own same own_home ∙ ne_eqb own group (λ e. ne (sym e))),
            append-nil (read_of size flows (take i flows) block group),
          )
          (is.maps group there))
          (cases_eq group own);
      keys = keys_more ∙ ap (λ (n : ℕ). n + 1) is.keys ∙ sym (flows_more true (eq-eqb _ block same));
      rows = λ group there. ap (λ (rs : List ℕ). slice_index rs group) rows_as_before ∙ is.rows group there;
    }

  -- the block has fewer flows so far than in all
  pub fewer_read : (place size.blocks (get_or flows i nobody).key).block ≡ block → length (flows_of size.blocks block (take i flows)) < length (flows_of size.blocks block flows)
  unfolding flows_of
  fewer_read same =
      let more = flows_more true (eq-eqb _ block same) in
      let part = length-filter (is_in size.blocks block) (take (i + 1) flows) in
      let whole = length-filter (is_in size.blocks block) flows in
      let less = sum_by-take-le (λ (f : Flow). cond (is_in size.blocks block f) 1 0) flows (i + 1) in
      omega (arith, more, part, whole, less)

-- ---- where an owner's blocks stand

pub index_inside : (nodes number block blocks count : ℕ) → 1 ≤ nodes → block < blocks → block % nodes ≡ number → blocks ≤ number + nodes * count → block / nodes < count
index_inside nodes number block blocks count some below owned enough =
    ⊎_elim (λ (low : block / nodes < count). low)
    (λ (high : count ≤ block / nodes). let far = mul-le-mul_left nodes high in absurd (omega arith))
    (cases_lt (block / nodes) count)

pub block_at : (nodes number block : ℕ) → 1 ≤ nodes → block % nodes ≡ number → number + nodes * (block / nodes) ≡ block
block_at nodes number block some owned = omega arith

pub owned_at : (nodes number at : ℕ) → number < nodes → (number + nodes * at) % nodes ≡ number
owned_at nodes number at low = add-mul-mod_self_left number nodes at ∙ mod-eq_of_lt low

same_place-less : (nodes a b : ℕ) → 1 ≤ nodes → nodes * a ≡ nodes * b → a < b → ⊥
same_place-less nodes a b some same less =
    let next : a + 1 ≤ b = omega arith in
    let far = mul-le-mul_left nodes next in
    omega arith

-- two of an owner's blocks at two places are two
pub same_place : (nodes number a b : ℕ) → 1 ≤ nodes → number + nodes * a ≡ number + nodes * b → a ≡ b
same_place nodes number a b some same =
    let products : nodes * a ≡ nodes * b = omega arith in
    ⊎_elim (λ (eq : a ≡ b). eq)
    (λ o. ⊎_elim (λ (less : a < b). absurd (same_place-less nodes a b some products less))
    (λ (less : b < a). absurd (same_place-less nodes b a some (sym products) less)) o)
    (cases_order a b)

-- ---- the limits of a build

within_of : (size : Size) (flows : List Flow) (past : Option PastLimit) → past ≡ None → TellsTheFirst size flows past → (block : ℕ) → block < size.blocks → IsWithin size flows block
within_of size flows None none tells = tells
within_of size flows (Some past) none tells = cc

within_build : (size : Size) (flows : List Flow) (images : List Image) → IsBuild size flows images → (block : ℕ) → block < size.blocks → IsWithin size flows block
within_build size flows images build = within_of size flows (past_limit size flows) build.within (names_the_first size flows)

-- ---- all blocks of an owner

-- the owner's blocks below this one, before flows are read
pub record AreOpened (size : Size) (number : ℕ) (flows : List Flow) (block : ℕ) (parts : List Part) : Type 0 where
  pub next : block ≡ number + size.nodes * length parts
  pub each : (at : ℕ) → at < length parts → (number + size.nodes * at < size.blocks) × IsFilled size flows [] (number + size.nodes * at) (get_or parts at no_part)

module _ (size : Size) (number : ℕ) (flows : List Flow) (some : 1 ≤ size.nodes) (node : number < size.nodes) where
  pub opened_none : (parts : List Part) → parts ≡ [] → AreOpened size number flows number parts
  opened_none parts none =
      let empty : length parts ≡ 0 = ap length none in
      record { next = omega (arith, ap (λ (n : ℕ). size.nodes * n) empty); each = λ at low. absurd (omega arith) }

  pub opened_more : (block : ℕ) (parts : List Part) (part : Part) → AreOpened size number flows block parts → block < size.blocks → IsFilled size flows [] block part
      → AreOpened size number flows (block + size.nodes) (parts ++ part ∷ [])
  opened_more block parts part so_far low is =
      let longer = length-append parts (part ∷ []) in
      record {
        next = omega (arith, so_far.next, ap (λ (n : ℕ). size.nodes * n) longer);
        each = λ at within. ⊎_elim
            (λ (same : at ≡ length parts).
            let here : number + size.nodes * at ≡ block = ap (λ (n : ℕ). number + size.nodes * n) same ∙ sym so_far.next in
            rw (here, get_or_push parts part no_part at (sym same)) (low, is))
            (λ (other : at ≢ length parts). rw (get_or_append_left parts (part ∷ []) no_part at (omega (arith, longer))) (so_far.each at (omega (arith, longer))))
            (cases_eq at (length parts));
      }

  pub opened_all : (block : ℕ) (parts : List Part) → AreOpened size number flows block parts → size.blocks ≤ block → AreFilled size number flows [] parts
  opened_all block parts so_far past = record { enough = omega (arith, so_far.next); each = so_far.each }

  module _ (i : ℕ) (inside : i < length flows) (parts : List Part) (so_far : AreFilled size number flows (take i flows) parts) where
    home_block : ℕ
    home_block = (place size.blocks (get_or flows i nobody).key).block

    -- a flow of another owner
    pub filled_foreign : (place size.blocks (get_or flows i nobody).key).block % size.nodes ≢ number → AreFilled size number flows (take (i + 1) flows) parts
    filled_foreign ne = record {
      enough = so_far.enough;
      each = λ at within.
          let there = so_far.each at within in (
            there.0,
            filled_apart size flows i inside (number + size.nodes * at) (get_or parts at no_part)
                (λ e. ne (ap (λ (b : ℕ). b % size.nodes) e ∙ owned_at size.nodes number at node)) there.1,
          );
    }

    -- a flow of this owner
    pub filled_own : (index own : ℕ) (new : Part) → (place size.blocks (get_or flows i nobody).key).block % size.nodes ≡ number
        → index ≡ (place size.blocks (get_or flows i nobody).key).block / size.nodes → index < length parts → own < 64
        → own ≡ group_of (get_or parts index no_part).choices (place size.blocks (get_or flows i nobody).key).bucket
        → new.choices ≡ (get_or parts index no_part).choices → new.rows ≡ (get_or parts index no_part).rows → ChangesGroup (get_or parts index no_part) new own
        → IsPermutation (map_in (get_or parts index no_part) own ++ get_or flows i nobody ∷ []) (map_in new own)
        → AreFilled size number flows (take (i + 1) flows) (set parts index new)
    filled_own index own new owned index_is there low own_is choices_same rows_as_before maps_changed map_more =
        let block : ℕ = (place size.blocks (get_or flows i nobody).key).block in
        let part : Part = get_or parts index no_part in
        let block_is : number + size.nodes * index ≡ block = ap (λ (n : ℕ). number + size.nodes * n) index_is ∙ block_at size.nodes number block some owned in
        let long : length (set parts index new) ≡ length parts = length-set parts index new in
        record {
          enough = omega (arith, so_far.enough, ap (λ (n : ℕ). size.nodes * n) long);
          each = λ at within. ⊎_elim
              (λ (same : at ≡ index).
              let is = so_far.each index there in
              rw (same, get_or-set_same parts index new no_part there)
              (is.0, filled_here size flows i inside (number + size.nodes * index) part new own (sym block_is) low own_is choices_same rows_as_before maps_changed map_more is.1))
              (λ (other : at ≢ index).
              let is = so_far.each at (omega (arith, long)) in
              rw (get_or-set_other parts index at new no_part other) (
                is.0,
                filled_apart size flows i inside (number + size.nodes * at) (get_or parts at no_part)
                    (λ e. other (same_place size.nodes number at index some (sym e ∙ sym block_is))) is.1,
              ))
              (cases_eq at index);
        }

    -- the block of a flow has room for it
    pub few_read : (images : List Image) → IsBuild size flows images → (index : ℕ) → index < length parts → index ≡ (place size.blocks (get_or flows i nobody).key).block / size.nodes
        → (place size.blocks (get_or flows i nobody).key).block % size.nodes ≡ number → keys_in (map_in (get_or parts index no_part)) < 1536
    few_read images build index there index_is owned =
        let block : ℕ = (place size.blocks (get_or flows i nobody).key).block in
        let block_is : number + size.nodes * index ≡ block = ap (λ (n : ℕ). number + size.nodes * n) index_is ∙ block_at size.nodes number block some owned in
        let is = so_far.each index there in
        let fewer = fewer_read size flows i inside (number + size.nodes * index) (sym block_is) in
        let limits = within_build size flows images build (number + size.nodes * index) is.0 in
        omega (arith, is.1.keys, fewer, limits.few)

  pub filled_none : (parts : List Part) → AreFilled size number flows [] parts → AreFilled size number flows (take 0 flows) parts
  filled_none parts is = is

  pub filled_all : (i : ℕ) (parts : List Part) → length flows ≤ i → AreFilled size number flows (take i flows) parts → AreFilled size number flows flows parts
  filled_all i parts past is = rw (take_all i flows past) at is

  -- ---- what the filled blocks are

  module _ (images : List Image) (build : IsBuild size flows images) (distinct : AreDistinct flows) (parts : List Part) (filled : AreFilled size number flows flows parts) where
    rows_total : (block : ℕ) (part : Part) → IsFilled size flows flows block part → rows_taken part ≡ needed size flows block
    unfolding rows_taken needed
    rows_total block part is =
        from_same (λ (x : ℕ). slice_index part.rows x)
        (λ (x : ℕ). rows_needed (value_bits size.nodes) (entries (opening size.blocks flows (record { block = block; group = x })))) 64 0 (λ x low high. is.rows x (omega arith))

    map_is : (block : ℕ) (part : Part) (group : ℕ) → IsFilled size flows flows block part → group < 64 → IsPermutation (opening size.blocks flows (record { block = block; group = group })) (map_in part group)
    unfolding opening
    map_is block part group is low = is.maps group low

    distinct_in : (block : ℕ) (part : Part) → IsFilled size flows flows block part → (group : ℕ) → AreDistinct (map_in part group)
    distinct_in block part is group = ⊎_elim
        (λ (low : group < 64).
        distinct_permuted (read_of size flows flows block group) (map_in part group) (is.maps group low)
        (AllPairs-filter HaveOtherKeys (λ (f : Flow). is_home (home size.blocks flows f.key) (record { block = block; group = group })) flows distinct))
        (λ (high : 64 ≤ group). subst AreDistinct (sym (get_or_past part.maps group empty_map (omega (arith, is.one_map_each)))) (λ a b d below inside. absurd (omega arith)))
        (cases_lt group 64)

    kept_of : (block : ℕ) (part : Part) → block < size.blocks → IsFilled size flows flows block part → IsKeptPart (value_bits size.nodes) part
    kept_of block part low is =
        let limits = within_build size flows images build block low in
        record {
          one_map_each = is.one_map_each;
          one_number_each = is.one_number_each;
          distinct = distinct_in block part is;
          few = omega (arith, is.keys, limits.few);
          rows = λ group there. is.rows group there
              ∙ rows_alike_in (value_bits size.nodes) (opening size.blocks flows (record { block = block; group = group })) (map_in part group) (map_is block part group is there);
          few_rows = omega (arith, rows_total block part is, limits.few_rows);
        }

    pub owner_of : IsOwner size number parts
    owner_of = record {
      enough = filled.enough;
      kept = λ at d within.
          let there = filled.each at within in
          rw (get_or_default parts at d no_part within) (kept_of (number + size.nodes * at) (get_or parts at no_part) there.0 there.1);
    }

    first_map : (at : Home) → opening size.blocks flows at ≡ map_now size flows [] at
    unfolding map_now now changed concerning
    first_map at = refl

    pub rib_of : (log : Log) → log.changes ≡ [] → IsRibOf size flows (record { size = size; number = number; parts = parts; journal = log })
    rib_of log none = record {
      sized = refl;
      parts = λ block low owned.
          let index : ℕ = block / size.nodes in
          let there = index_inside size.nodes number block size.blocks (length parts) some low owned filled.enough in
          let is : IsFilled size flows flows block (get_or parts (block / size.nodes) no_part) =
          rw (block_at size.nodes number block some owned) at (filled.each (block / size.nodes) there).1 in
          record {
            choices = is.choices;
            maps = λ group within_group.
                subst (λ (m : List Flow). IsPermutation m (map_in (get_or parts (block / size.nodes) no_part) group))
                (first_map (record { block = block; group = group })
                ∙ ap (λ (cs : List Change). map_now size flows cs (record { block = block; group = group })) (sym none))
                (map_is block (get_or parts (block / size.nodes) no_part) group is within_group);
          };
    }

-- the group of a bucket is one of the block's
pub group_below : (choices : List ℕ) (bucket : ℕ) → group_of choices bucket < 64
unfolding candidate
group_below choices bucket = omega arith
