use Rattle.csv_rows.specs.Reading.{IsReading}
use Rattle.csv_rows.proofs.tests.shown.Given as goal

abbrev pub invariant-rows : goal.invariant-rows
invariant-rows l = IsReading l.reader
