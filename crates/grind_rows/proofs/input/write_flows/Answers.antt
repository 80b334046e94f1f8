use Rattle.std.proofs.Common.{arith, codes}
use Rattle.grind_rows.specs.Input.{flow_rows}
use Rattle.grind_rows.specs.Made.{flow}
use Rattle.grind_rows.specs.Rows.{flow_row}
use Rattle.grind_rows.proofs.Below.{next_row, no_row}
use Rattle.grind_rows.proofs.input.write_flows.Goals as goal

pub flows-init : goal.flows-init
unfolding flow_rows
flows-init c = record { written = no_row (λ number. flow_row (codes "flow") (flow c.args.seed number)) c.args.text.now.items; within = omega arith }

pub flows-preserved : goal.flows-preserved
unfolding flow_rows
flows-preserved c = record {
  written = next_row (λ number. flow_row (codes "flow") (flow c.args.seed number)) _ _ _ c.flows.number c.flows.invariant.written
      (rw c.flow.ensures at c.in_ok-write_flow.ensures.written);
  within = omega (arith, c.in_ok-write_flow.ensures.within);
}
