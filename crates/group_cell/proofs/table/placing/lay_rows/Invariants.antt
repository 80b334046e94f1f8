use Rattle.std.proofs.Common.{◌≡◌, ◌≢◌, ℕ, ◌+◌, List, take}
use Rattle.group_search.specs.declared.rows.Row.{Row}
use Rattle.group_search.specs.Home.{Home}
use Rattle.group_cell.specs.Layout.{home_of}
use Rattle.group_cell.specs.Rule.{RowsStand}
use Rattle.group_cell.specs.Seating.{CellSeat, AreOwners, IsInWriting, Rewrites, places_of, words_of_seat}
use Rattle.group_cell.proofs.table.placing.lay_rows.Given as goal

-- the rows so far stand in places
pub record Laid (before now : CellSeat) (at : Home) (count : ℕ) (rows : List Row) (owners_before owners_now : List ℕ) : Type 0 where
  pub owners : AreOwners owners_now (words_of_seat now) at.block
  pub rewrites : Rewrites at.block before now
  pub writing : IsInWriting now at
  pub stand : RowsStand (words_of_seat now) at (take count rows)
  pub free : places_of 0 owners_now + count ≡ places_of 0 owners_before
  pub mine : places_of (at.group + 1) owners_now ≡ places_of (at.group + 1) owners_before + count
  pub others : (o : ℕ) → o ≢ 0 → o ≢ at.group + 1 → places_of o owners_now ≡ places_of o owners_before

abbrev pub invariant-rows : goal.invariant-rows
invariant-rows l = Laid l.initial.seat l.seat (home_of l.fn.at) l.row-index l.rows l.initial.owners l.owners
