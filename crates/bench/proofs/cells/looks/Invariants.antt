use Rattle.group_cell.specs.Seats.{IsReaderOf}
use Rattle.bench.proofs.cells.looks.Given as goal

abbrev pub invariant-looks : goal.invariant-looks
invariant-looks g l = IsReaderOf l.fn.table l.reader
