use Rattle.std.proofs.Common.{◌≡◌, ℕ, ◌+◌, List, take}
use Rattle.group_search.specs.declared.rows.Row.{Row}
use Rattle.group_cell.specs.Layout.{sequence}
use Rattle.group_cell.specs.Laying.{LeavesOthers, in_front}
use Rattle.group_cell.specs.Rule.{RowsStand}
use Rattle.group_cell.specs.Seating.{AreOwners, places_of}
use Rattle.group_cell.proofs.table.laying.lay_rows.Given as goal

-- the rows so far stand in places
pub record Laid (group count : ℕ) (rows : List Row) (words_before words owners_before owners : List ℕ) : Type 0 where
  pub owners_of : AreOwners owners words 0
  pub free : places_of 0 owners + count ≡ places_of 0 owners_before
  pub mine : places_of (group + 1) owners ≡ count
  pub others : LeavesOthers (in_front group) words_before words owners_before owners
  pub version : sequence words (in_front group) ≡ 0
  pub stand : RowsStand words (in_front group) (take count rows)

abbrev pub invariant-rows : goal.invariant-rows
invariant-rows l = Laid l.fn.group l.row-index l.rows l.initial.words l.words l.initial.owners l.owners
