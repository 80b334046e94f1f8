use Rattle.std.proofs.Common.{sym, ap, ◌∙◌}
use Rattle.csv_rows.specs.Reading.{rows_left}
use Rattle.csv_rows.specs.Rows.{fields_of}
use Rattle.flow_reader.specs.Opening.{opening_after}
use Rattle.flow_reader.proofs.OpeningFacts.{opening_of-none, opening_of-some}
use Rattle.flow_reader.proofs.rows.read_shape.Goals as goal

pub returns-then-not-branch-clause-says : goal.returns-then-not-branch-clause-says
returns-then-not-branch-clause-says c =
    rw c.refusal.ensures (opening_of-none c.in_ok-next_row.field-0 (rows_left c.args.reader.now) (rows_left c.next_row.new.self) (fields_of c.next_row.new.row)
    c.if-not-branch.true c.in_ok-next_row.ensures.takes)

pub returns-in-Ok-clause-says : goal.returns-in-Ok-clause-says
returns-in-Ok-clause-says c =
    opening_of-some c.in_ok-next_row.field-0 (rows_left c.args.reader.now) (rows_left c.next_row.new.self) (fields_of c.next_row.new.row)
    c.if-not-branch.false c.in_ok-next_row.ensures.takes
    ∙ ap (opening_after (rows_left c.next_row.new.self)) (sym c.in-Ok.ensures)

pub returns-in-Err-clause-says : goal.returns-in-Err-clause-says
returns-in-Err-clause-says c =
    rw c.refusal-in-Err.ensures (opening_of-some c.in_ok-next_row.field-0 (rows_left c.args.reader.now) (rows_left c.next_row.new.self) (fields_of c.next_row.new.row)
    c.if-not-branch.false c.in_ok-next_row.ensures.takes
    ∙ ap (opening_after (rows_left c.next_row.new.self)) (sym c.in-Err.ensures))
