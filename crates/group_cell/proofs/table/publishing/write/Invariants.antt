use Rattle.std.proofs.Common.{◌≡◌, ℕ, ◌<◌, List, slice_index}
use Rattle.group_search.specs.Home.{Home}
use Rattle.group_cell.specs.Layout.{home_of, datum}
use Rattle.group_cell.specs.Seating.{CellSeat, IsInWriting, WritesData, words_of_seat}
use Rattle.group_cell.proofs.table.publishing.write.Given as goal

-- the data words so far are stored
pub record Stored (before now : CellSeat) (at : Home) (number : ℕ) (words : List ℕ) : Type 0 where
  pub writes : WritesData at before now
  pub writing : IsInWriting now at
  pub data_words : (j : ℕ) → j < number → datum (words_of_seat now) at j ≡ slice_index words j

abbrev pub invariant-stores : goal.invariant-stores
invariant-stores l = Stored l.initial.seat l.seat (home_of l.fn.at) l.number l.words
