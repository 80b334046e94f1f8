-- The keys and the rows of a block, when one of its groups gets another map.
use Rattle.std.proofs.Common.{ℕ, zero, suc, replicate, ◌≡◌, ◌≢◌, ◌+◌, ◌-◌, ◌≤◌, ◌<◌, List, [], length, get_or, set, refl, sym, ap, arith}
use Rattle.std.proofs.lemmas.List.{get_or-set_other, get_or-set_same}
use Rattle.flow_types.specs.declared.record.Flow.{Flow}
use Rattle.group_history.specs.Acceptance.{keys_in}
use Rattle.rib_owner.specs.Part.{rows_free, rows_taken}
use Rattle.rib_owner.specs.Rib.{Part, map_in}
use Rattle.group_search.proofs.Sums.{beside_same, from_same, sum_apart, sum_beside, sum_from, sum_more, sum_of_none}
use Rattle.group_search.specs.Build.{rows_left}

abbrev pub no_flows : List Flow
no_flows = []

-- the keys of all groups, with one apart
pub keys_apart : (maps : ℕ → List Flow) (group : ℕ) → group < 64 → keys_in maps ≡ sum_beside (λ (x : ℕ). length (maps x)) group 0 64 + length (maps group)
unfolding keys_in
keys_apart maps group low = sum_apart (λ (x : ℕ). length (maps x)) group 64 0 (omega arith) low

pub rows_apart : (part : Part) (group : ℕ) → group < 64 → rows_taken part ≡ sum_beside (λ (x : ℕ). get_or part.rows x 0) group 0 64 + get_or part.rows group 0
unfolding rows_taken
rows_apart part group low = sum_apart (λ (x : ℕ). get_or part.rows x 0) group 64 0 (omega arith) low

pub rows_left_is : (part : Part) (group : ℕ) → rows_free part group ≡ 64 - sum_beside (λ (x : ℕ). get_or part.rows x 0) group 0 64
unfolding rows_left
rows_left_is part group = refl

-- a part with another map and another number of rows at a group
abbrev pub with_map : Part → ℕ → List Flow → ℕ → Part
with_map part group map rows = record part { maps = set part.maps group map; rows = set part.rows group rows }

module _ (part : Part) (group rows : ℕ) (map : List Flow) (low : group < 64) (maps_there : length part.maps ≡ 64) (rows_there : length part.rows ≡ 64) where
  pub map_here : map_in (with_map part group map rows) group ≡ map
  map_here = get_or-set_same part.maps group map [] (omega arith)

  pub map_beside : (other : ℕ) → other ≢ group → map_in (with_map part group map rows) other ≡ map_in part other
  map_beside other ne = get_or-set_other part.maps group other map [] ne

  pub rows_here : get_or (with_map part group map rows).rows group 0 ≡ rows
  rows_here = get_or-set_same part.rows group rows 0 (omega arith)

  pub rows_beside : (other : ℕ) → other ≢ group → get_or (with_map part group map rows).rows other 0 ≡ get_or part.rows other 0
  rows_beside other ne = get_or-set_other part.rows group other rows 0 ne

  pub keys_with : keys_in (map_in (with_map part group map rows)) + length (map_in part group) ≡ keys_in (map_in part) + length map
  keys_with =
      let before = keys_apart (map_in part) group low in
      let after = keys_apart (map_in (with_map part group map rows)) group low in
      let others = beside_same (λ (x : ℕ). length (map_in (with_map part group map rows) x)) (λ (x : ℕ). length (map_in part x)) group 64 0 (λ x ne. ap length (map_beside x ne)) in
      let here = ap length map_here in
      omega arith

  pub rows_with : rows_taken (with_map part group map rows) + get_or part.rows group 0 ≡ rows_taken part + rows
  rows_with =
      let before = rows_apart part group low in
      let after = rows_apart (with_map part group map rows) group low in
      let others = beside_same (λ (x : ℕ). get_or (with_map part group map rows).rows x 0) (λ (x : ℕ). get_or part.rows x 0) group 64 0 (λ x ne. rows_beside x ne) in
      let here = rows_here in
      omega arith

-- a group has no more keys and takes no more rows than its block
pub map_within : (maps : ℕ → List Flow) (group : ℕ) → group < 64 → length (maps group) ≤ keys_in maps
map_within maps group low = omega (arith, keys_apart maps group low)

pub rows_within : (part : Part) (group : ℕ) → group < 64 → get_or part.rows group 0 ≤ rows_taken part
rows_within part group low = omega (arith, rows_apart part group low)

-- the rows are a matter of the numbers alone
pub rows_same : (part other : Part) → part.rows ≡ other.rows → rows_taken part ≡ rows_taken other
unfolding rows_taken
rows_same part other same = ap (λ (rs : List ℕ). rows_taken (record { choices = []; maps = []; rows = rs })) same

-- ---- a block without flows

pub none_at_all : (n x : ℕ) → get_or (replicate n no_flows) x [] ≡ []
none_at_all zero x = refl
none_at_all (suc n) zero = refl
none_at_all (suc n) (suc x) = none_at_all n x

pub no_keys : (maps : ℕ → List Flow) → ((x : ℕ) → maps x ≡ []) → keys_in maps ≡ 0
unfolding keys_in
no_keys maps none = sum_of_none (λ (x : ℕ). length (maps x)) 64 0 (λ x. ap length (none x))

pub rows_are : (part : Part) (used : ℕ) → used ≡ sum_from (λ (x : ℕ). get_or part.rows x 0) 0 64 → used ≡ rows_taken part
unfolding rows_taken
rows_are part used is = is

-- one more group's rows are written
pub used_more : (rows : List ℕ) (group n used : ℕ) → group < length rows → used ≡ sum_from (λ (x : ℕ). get_or rows x 0) 0 group
    → used + get_or (set rows group n) group 0 ≡ sum_from (λ (x : ℕ). get_or (set rows group n) x 0) 0 (group + 1)
used_more rows group n used there is =
    let before = from_same (λ (x : ℕ). get_or rows x 0) (λ (x : ℕ). get_or (set rows group n) x 0) group 0
    (λ x low high. sym (get_or-set_other rows group x n 0 (λ e. omega arith))) in
    let more = sum_more (λ (x : ℕ). get_or (set rows group n) x 0) group in
    omega (arith, before, more, is)
