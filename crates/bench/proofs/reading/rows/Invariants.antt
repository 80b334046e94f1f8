use Rattle.csv_rows.specs.Reading.{IsReading}
use Rattle.bench.proofs.reading.rows.Given as goal

abbrev pub invariant-rows : goal.invariant-rows
invariant-rows l = IsReading l.reader
