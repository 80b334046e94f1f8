use Rattle.std.proofs.Common.{◌≤◌, ◌+◌, length}
use Rattle.group_cell.specs.Seats.{IsWriterOf, published}
use Rattle.group_cell.proofs.tests.publish_many.Given as goal

abbrev pub invariant-turns : goal.invariant-turns
invariant-turns l = IsWriterOf l.fn.table l.writer × (length (published l.writer) ≤ length (published l.initial.writer) + l.turn) × (l.done ≤ l.turn)
