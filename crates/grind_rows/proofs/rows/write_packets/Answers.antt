use Rattle.std.proofs.Common.{◌+◌, ◌*◌, arith}
use Rattle.grind_rows.specs.Input.{packet_row, packet_rows}
use Rattle.grind_rows.proofs.Below.{next_row, no_row}
use Rattle.grind_rows.proofs.rows.write_packets.Goals as goal

pub packets-init : goal.packets-init
unfolding packet_rows
packets-init c = record { written = no_row (λ packet. packet_row c.args.seed (c.args.first + 2 * packet)) c.args.text.now.items; within = omega arith }

pub packets-preserved : goal.packets-preserved
unfolding packet_rows
packets-preserved c = record {
  written = next_row (λ packet. packet_row c.args.seed (c.args.first + 2 * packet)) _ _ _ c.packets.packet c.packets.invariant.written
      (rw (c.ingress.ensures, c.packet_key.ensures) at c.in_ok-write_packet.ensures.written);
  within = omega (arith, c.in_ok-write_packet.ensures.within);
}
