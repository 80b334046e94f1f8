use Rattle.std.proofs.Common.{◌≡◌, drop}
use Rattle.csv_rows.specs.Reading.{IsReading, rows_left}
use Rattle.packet_reader.proofs.reading.skip_rows.Given as goal

abbrev pub invariant-skipped : goal.invariant-skipped
invariant-skipped l = IsReading l.reader × (rows_left l.reader ≡ drop l._taken (rows_left l.initial.reader))
