use Rattle.std.proofs.Common.{◌≡◌, ◌+◌, ◌<◌, ◌^◌, length}
use Rattle.csv_rows.specs.Reading.{IsReading, rows_left}
use Rattle.packet_reader.specs.Meaning.{syncs_of}
use Rattle.packet_reader.specs.Script.{script_from, script_of}
use Rattle.packet_reader.proofs.reading.read_rows.Given as goal

-- the rows that are left say, after what was read, what all rows say
abbrev pub invariant-rows : goal.invariant-rows
invariant-rows g l = record {
  reading : IsReading l.reader;
  said : script_from (g.M.RowMeaning.meaning l.fn.meaning) (rows_left l.reader) (record { events = l.events.items; ended = l.ended }) l.number ≡ script_of (g.M.RowMeaning.meaning l.fn.meaning) l.begin_row (rows_left l.initial.reader);
  few : l.number + length (rows_left l.reader) < 2 ^ 32;
  bounded : l.syncs < l.number;
  counted : l.syncs ≡ syncs_of (g.M.RowMeaning.meaning l.fn.meaning) l.events.items;
}

abbrev pub decreases-rows : goal.decreases-rows
decreases-rows g l = length (rows_left l.reader)
