use Rattle.std.proofs.Common.{◌≤◌, ◌+◌, length}
use Rattle.group_cell.specs.Seats.{IsWriterOf, published}
use Rattle.bench.proofs.cells.publications.Given as goal

abbrev pub invariant-turns : goal.invariant-turns
invariant-turns g l = IsWriterOf l.fn.table l.writer × (length (published l.writer) ≤ length (published l.initial.writer) + l.number)
