use Rattle.std.proofs.Common.{◌+◌, ◌-◌, sym, arith, ◌∙◌}
use Rattle.csv_rows.specs.Reading.{rows_left}
use Rattle.csv_rows.specs.Rows.{fields_of}
use Rattle.flow_reader.proofs.OpeningFacts.{left_more, length-took, opening_from-begin, opening_from-end, opening_from-flow, opening_from-refused}
use Rattle.flow_reader.proofs.rows.read_flows.Goals as goal

pub returns-in-Err-clause-begins : goal.returns-in-Err-clause-begins
returns-in-Err-clause-begins c =
    opening_from-refused c.args.shape c.nodes.result c.rows.known c.rows.number c.in_ok-next_row.field-0 (rows_left c.rows.reader) (rows_left c.next_row.new.self) (fields_of c.next_row.new.row)
    _ c.in-Err.refused c.take_row.new.known c.take_row.new.known c.rows.invariant.said c.nodes.ensures.value c.if-branch.true c.in_ok-next_row.ensures.takes c.in-Err.ensures

pub rows-preserved : goal.rows-preserved
rows-preserved c =
    let fewer = length-took c.in_ok-next_row.field-0 (rows_left c.rows.reader) (rows_left c.next_row.new.self) (fields_of c.next_row.new.row) c.if-branch.true c.in_ok-next_row.ensures.takes in
    record {
      reading = c.in_ok-next_row.ensures.reading;
      said =
          sym (opening_from-flow c.args.shape c.nodes.result c.rows.known c.rows.number c.in_ok-next_row.field-0 (rows_left c.rows.reader) (rows_left c.next_row.new.self) (fields_of c.next_row.new.row)
          c.take_row.new.known c.nodes.ensures.value c.if-branch.true c.in_ok-next_row.ensures.takes (rw c.in-Ok-true.field-0-test at c.in-Ok-true.ensures))
          ∙ c.rows.invariant.said;
      left =
          left_more c.in_ok-next_row.field-0 _ (rows_left c.rows.reader) (rows_left c.next_row.new.self) (fields_of c.next_row.new.row) (c.rows.number - 2) (c.rows.number + 1 - 2)
          c.if-branch.true c.in_ok-next_row.ensures.takes c.rows.invariant.left (let counted = c.rows.invariant.counted in omega arith);
      counted = omega arith;
      few = omega arith;
    }

pub returns-in-Ok-false-clause-begins : goal.returns-in-Ok-false-clause-begins
returns-in-Ok-false-clause-begins c =
    sym c.rows.invariant.said
    ∙ opening_from-begin c.args.shape c.nodes.result c.rows.known c.rows.number c.in_ok-next_row.field-0 (rows_left c.rows.reader) (rows_left c.next_row.new.self) (fields_of c.next_row.new.row)
    c.take_row.new.known c.nodes.ensures.value c.if-branch.true c.in_ok-next_row.ensures.takes (rw c.in-Ok-false.field-0-test at c.in-Ok-false.ensures)

pub returns-clause-begins : goal.returns-clause-begins
returns-clause-begins c =
    rw c.refusal.ensures (sym c.rows.invariant.said ∙ opening_from-end c.args.shape 0 c.rows.known c.rows.number c.in_ok-next_row.field-0 (rows_left c.rows.reader) (rows_left c.next_row.new.self) (fields_of c.next_row.new.row)
    c.if-branch.false c.in_ok-next_row.ensures.takes)

pub returns-in-Ok-false-clause-left : goal.returns-in-Ok-false-clause-left
returns-in-Ok-false-clause-left c =
    left_more c.in_ok-next_row.field-0 _ (rows_left c.rows.reader) (rows_left c.next_row.new.self) (fields_of c.next_row.new.row) (c.rows.number - 2) (c.rows.number - 1)
    c.if-branch.true c.in_ok-next_row.ensures.takes c.rows.invariant.left (let counted = c.rows.invariant.counted in omega arith)
