-- How many rows are free beside a group, by its cells.
use Rattle.std.proofs.Common.{ℕ, zero, suc, ◌≡◌, ◌∙◌, ◌+◌, ◌-◌, ◌/◌, ◌%◌, ◌<◌, Bool, true, false, not, cond, List, [], ◌∷◌, map, sum, refl, sym, ap, arith}
use Rattle.std.specs.Prelude.{◌==◌, filter}
use Rattle.std.specs.List.{range_with_len}
use Rattle.flow_types.specs.Size.{Size}
use Rattle.group_search.specs.Build.{rows_left}
use Rattle.group_search.specs.declared.published.Publication.{Publication}
use Rattle.group_search.specs.Canon.{rows_in}
use Rattle.group_cell.specs.Opening.{HaveAllGroups, Opened}
use Rattle.group_cell.specs.Rule.{latest}
use Rattle.group_cell.specs.Seats.{rows_beside, the_group}
use Rattle.group_cell.specs.Seats as cells_sum
use Rattle.group_cell.proofs.Room.{sum_beside-same}
use Rattle.replica_shard.specs.Owners.{AreOwnersCells, cell_of}
use Rattle.replica_shard.specs.Shard.{free_rows, rows_taken_by}
use Rattle.replica_shard.specs.Store.{shard_state_of}
use Rattle.replica_shard.proofs.Cells.{latest_is, store}
use Rattle.replica_shard.proofs.Sums.{is_not, sum-cons, sum_beside}

module _ (f : ℕ → ℕ) (one : ℕ) where
  abbrev part : ℕ → ℕ
  part n = cond (is_not one n) (f n) 0

  first_step : (first : ℕ) (rest : List ℕ) (other : Bool) → is_not one first ≡ other
      → sum (map f (filter (is_not one) (first ∷ rest))) ≡ cond other (f first) 0 + sum (map f (filter (is_not one) rest))
  first_step first rest true e = rw e (sum-cons (f first) (map f (filter (is_not one) rest)))
  first_step first rest false e = rw e (let z : 0 + sum (map f (filter (is_not one) rest)) ≡ sum (map f (filter (is_not one) rest)) = omega arith in sym z)

  first_part : (first : ℕ) (rest : List ℕ) → sum (map f (filter (is_not one) (first ∷ rest))) ≡ part first + sum (map f (filter (is_not one) rest))
  first_part first rest = first_step first rest (is_not one first) refl

  -- one more number at the end
  last_part : (n from last : ℕ) → last ≡ from + n → sum_beside f one from (suc n) ≡ sum_beside f one from n + part last
  last_part zero from last is =
      let here : part from ≡ part last = ap part (let e : from ≡ last = omega arith in e) in
      let first = first_part from [] in
      omega (arith, first, here)
  last_part (suc n) from last is =
      let more = last_part n (from + 1) last (omega arith) in
      let longer = first_part from (range_with_len (from + 1) (suc n)) in
      let shorter = first_part from (range_with_len (from + 1) n) in
      omega (arith, more, longer, shorter)

  if_not : (here : Bool) (x : ℕ) → cond here 0 x ≡ cond (not here) x 0
  if_not true x = refl
  if_not false x = refl

  -- the cells' sum is the shard's
  pub same_sum : (n : ℕ) → cells_sum.sum_beside f one n ≡ sum_beside f one 0 n
  same_sum zero = refl
  same_sum (suc n) =
      let before = same_sum n in
      let last = last_part n 0 n (omega arith) in
      let here : cond (n == one) 0 (f n) ≡ part n = if_not (n == one) (f n) in
      omega (arith, before, last, here)

module _ (size : Size) (owner : ℕ) (choices : List (List ℕ)) (cells : Opened) (are : AreOwnersCells size owner choices cells) (full : HaveAllGroups cells.images)
    (ps : List Publication) (block : ℕ) (within : block < size.blocks) (owned : block % size.nodes ≡ owner) (group : ℕ) where
  rows_of : ℕ → ℕ
  rows_of other = rows_taken_by ((shard_state_of (store size owner choices cells are full ps)).records (record { block = block; group = other }))

  free_are : free_rows (shard_state_of (store size owner choices cells are full ps)) block group ≡ 64 - sum_beside rows_of group 0 64
  unfolding rows_left rows_of
  free_are = refl

  rows_are : rows_beside cells ps (cell_of size.nodes (record { block = block; group = group })) ≡ sum_beside rows_of group 0 64
  unfolding rows_beside rows_of
  rows_are =
      sum_beside-same (λ (other : ℕ). rows_in (latest cells ps (the_group (block / size.nodes) other))) rows_of group 64
      (λ other low. ap rows_taken_by (latest_is size owner choices cells are full ps block within owned other low))
      ∙ same_sum rows_of group 64

  -- the cells' room for a group is what the shard has free beside it
  pub room_is_free : (place room : ℕ) → place ≡ block / size.nodes → room + rows_beside cells ps (the_group place group) ≡ 64
      → room ≡ free_rows (shard_state_of (store size owner choices cells are full ps)) block group
  room_is_free place room at is =
      let there : rows_beside cells ps (the_group place group) ≡ rows_beside cells ps (the_group (block / size.nodes) group) = ap (λ (p : ℕ). rows_beside cells ps (the_group p group)) at in
      omega (arith, is, there, rows_are, free_are)
