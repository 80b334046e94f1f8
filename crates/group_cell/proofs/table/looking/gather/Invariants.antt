use Rattle.std.proofs.Common.{◌≡◌, ℕ, List, ◌++◌, length}
use Rattle.group_search.specs.Home.{Home}
use Rattle.group_cell.specs.Layout.{home_of}
use Rattle.group_cell.specs.Seating.{CellSeat, IsLooking, GoesOn, loads_of}
use Rattle.group_cell.proofs.Answering.{first_loads}
use Rattle.group_cell.proofs.table.looking.gather.Given as goal

-- the data words so far are loaded
pub record Gathered (before now : CellSeat) (at : Home) (number : ℕ) (found : List ℕ) : Type 0 where
  pub width : length found ≡ 2
  pub looking : IsLooking now
  pub goes_on : GoesOn before now
  pub loads : loads_of now ≡ loads_of before ++ first_loads at found number

abbrev pub invariant-loads : goal.invariant-loads
invariant-loads l = Gathered l.initial.seat l.seat (home_of l.fn.at) l.number l.words
