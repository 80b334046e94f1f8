-- The rows of the packets so far stand after what stood there.
use Rattle.std.proofs.Common.{◌≡◌, ◌+◌, ◌*◌, ◌≤◌, ◌++◌, length}
use Rattle.grind_rows.specs.Input.{packet_rows}
use Rattle.grind_rows.proofs.rows.write_packets.Given as goal

abbrev pub invariant-packets : goal.invariant-packets
invariant-packets l = record {
  written : l.text.items ≡ l.initial.text.items ++ packet_rows l.seed l.first l.packet;
  within : length l.text.items ≤ length l.initial.text.items + 160 * l.packet;
}
