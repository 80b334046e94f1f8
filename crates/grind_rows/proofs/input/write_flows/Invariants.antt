-- The rows of the flows so far stand after what stood there.
use Rattle.std.proofs.Common.{◌≡◌, ◌+◌, ◌*◌, ◌≤◌, ◌++◌, length}
use Rattle.grind_rows.specs.Input.{flow_rows}
use Rattle.grind_rows.proofs.input.write_flows.Given as goal

abbrev pub invariant-flows : goal.invariant-flows
invariant-flows l = record {
  written : l.text.items ≡ l.initial.text.items ++ flow_rows l.seed l.number;
  within : length l.text.items ≤ length l.initial.text.items + 160 * l.number;
}
