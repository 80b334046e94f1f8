use Rattle.std.proofs.Common.{arith}
use Rattle.grind_rows.specs.Input.{turn, turns}
use Rattle.grind_rows.proofs.Below.{next_row, no_row}
use Rattle.grind_rows.proofs.input.write_turns.Goals as goal

pub updates-init : goal.updates-init
unfolding turns
updates-init c = record { written = no_row (turn c.args.seed) c.args.text.now.items; within = omega arith }

pub updates-preserved : goal.updates-preserved
unfolding turns
updates-preserved c = record {
  written = next_row (turn c.args.seed) _ _ _ c.updates.update c.updates.invariant.written c.in_ok-write_turn.ensures.written;
  within = omega (arith, c.in_ok-write_turn.ensures.within);
}
