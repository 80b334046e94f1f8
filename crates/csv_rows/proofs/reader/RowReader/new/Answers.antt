use Rattle.csv_rows.specs.Reading.{rows_left}
use Rattle.csv_rows.proofs.ReadingFacts.{length-rows, rows_from-start}
use Rattle.csv_rows.proofs.reader.RowReader.new.Goals as goal

pub returns-clause-all : goal.returns-clause-all
unfolding rows_left
returns-clause-all c =
    let made = c.from_reader-reader.ensures in
    rw (made.state, made.source) (rows_from-start c.args.bytes.now)

pub returns-clause-few : goal.returns-clause-few
returns-clause-few c = length-rows c.args.bytes.now
