use Rattle.std.proofs.Common.{◌≤◌}
use Rattle.group_cell.specs.Seats.{IsReaderOf}
use Rattle.group_cell.proofs.tests.look_many.Given as goal

abbrev pub invariant-looks : goal.invariant-looks
invariant-looks l = IsReaderOf l.fn.table l.reader × (l.answered ≤ l.turn) × (l.wrong ≤ l.turn)
