use Rattle.std.proofs.Common.{◌≡◌, ◌+◌, ◌-◌, ◌<◌, ◌≤◌, ◌^◌, drop, length}
use Rattle.csv_rows.specs.Reading.{IsReading, rows_left}
use Rattle.flow_reader.specs.Opening.{opening_from}
use Rattle.flow_reader.proofs.rows.read_flows.Given as goal

abbrev pub invariant-rows : goal.invariant-rows
invariant-rows l = record {
  reading : IsReading l.reader;
  said : opening_from l.shape (rows_left l.reader) l.known l.number ≡ opening_from l.shape (rows_left l.initial.reader) l.initial.known 2;
  left : rows_left l.reader ≡ drop (l.number - 2) (rows_left l.initial.reader);
  counted : 2 ≤ l.number;
  few : l.number + length (rows_left l.reader) < 2 ^ 32;
}

abbrev pub decreases-rows : goal.decreases-rows
decreases-rows l = length (rows_left l.reader)
