use Rattle.group_cell.specs.Seats.{IsReaderOf}
use Rattle.group_cell.proofs.tests.finds_all.Given as goal

abbrev pub invariant-keys : goal.invariant-keys
invariant-keys l = IsReaderOf l.fn.table l.reader
