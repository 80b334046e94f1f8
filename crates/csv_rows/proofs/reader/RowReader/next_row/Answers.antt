use Rattle.csv.specs.Reading.{error_kind}
use Rattle.csv.specs.Records.{fields_of}
use Rattle.csv_rows.proofs.ReadingFacts.{explained-stops, takes-row}
use Rattle.csv_rows.proofs.reader.RowReader.next_row.Goals as goal

pub returns-in-Ok-clause-takes : goal.returns-in-Ok-clause-takes
returns-in-Ok-clause-takes c =
    takes-row c.args.self.now (record { reader = c.read_byte_record.new.self }) c.in-Ok.found (fields_of c.read_byte_record.new.row) c.requires
    (c.in-Ok.ensures.reads c.requires.trim c.requires.ready)

pub want_of_memory-requires : goal.want_of_memory-requires
want_of_memory-requires c =
    explained-stops c.args.self.now (record { reader = c.read_byte_record.new.self }) (error_kind c.in-Err.error) c.requires
    (c.in-Err.ensures.why c.requires.ready)
