-- The rows of the updates so far, and of what follows them, stand after what stood there.
use Rattle.std.proofs.Common.{◌≡◌, ◌+◌, ◌*◌, ◌≤◌, ◌++◌, length}
use Rattle.grind_rows.specs.Input.{turns}
use Rattle.grind_rows.proofs.input.write_turns.Given as goal

abbrev pub invariant-updates : goal.invariant-updates
invariant-updates l = record {
  written : l.text.items ≡ l.initial.text.items ++ turns l.seed l.update;
  within : length l.text.items ≤ length l.initial.text.items + 3520 * l.update;
}
