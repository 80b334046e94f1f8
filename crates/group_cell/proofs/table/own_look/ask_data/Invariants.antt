use Rattle.std.proofs.Common.{◌≡◌, ℕ, ◌<◌, List, slice_index, length}
use Rattle.group_search.specs.Home.{Home}
use Rattle.group_cell.specs.Layout.{home_of, datum}
use Rattle.group_cell.specs.Seating.{CellSeat, IsSameSeat, words_of_seat}
use Rattle.group_cell.proofs.table.own_look.ask_data.Given as goal

-- the data words so far are loaded
pub record Asked (before now : CellSeat) (at : Home) (number : ℕ) (found : List ℕ) : Type 0 where
  pub width : length found ≡ 2
  pub same : IsSameSeat before now
  pub kept : now.me ≡ before.me
  pub loads : (j : ℕ) → j < number → slice_index found j ≡ datum (words_of_seat before) at j

abbrev pub invariant-loads : goal.invariant-loads
invariant-loads l = Asked l.initial.seat l.seat (home_of l.fn.at) l.number l.words
