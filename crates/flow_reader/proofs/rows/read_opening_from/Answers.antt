use Rattle.std.proofs.Common.{◌≤◌, arith, rules}
use Rattle.csv_rows.specs.Reading.{rows_left}
use Rattle.csv_rows.specs.Rows.{fields_of}
use Rattle.flow_reader.proofs.FirstBadFacts.{is-opening}
use Rattle.flow_reader.proofs.FlowFacts.{opening_fits}
use Rattle.flow_reader.proofs.OpeningFacts.{left_after}
use Rattle.flow_reader.proofs.rows.read_opening_from.Goals as goal

pub returns-clause-opening : goal.returns-clause-opening
returns-clause-opening c = is-opening _ _ (search rules)

pub returns-clause-fit : goal.returns-clause-fit
returns-clause-fit c = opening_fits _ _ (is-opening _ _ (search rules))

pub returns-clause-left : goal.returns-clause-left
returns-clause-left c =
    let number = (returns-clause-fit c).begin_row in
    let some : 1 ≤ c.in_ok-begin_row.begin_row = omega arith in
    left_after c.in_ok-begin_row.begin_row (rows_left c.args.reader.now) (rows_left c.read_shape.new.reader) (rows_left c.read_flows.new.reader) (fields_of c.read_shape.new.row)
    some c.in_ok-shape.ensures.takes c.in_ok-begin_row.ensures.left
