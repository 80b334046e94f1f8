-- What the rules of a packet say of its length.
use Rattle.std.proofs.Common.{◌≡◌, ℕ, ◌≤◌, ◌||◌, Bool, true, false, nat_lt, List, length, arith}
use Rattle.gtpu_path.specs.Packet.{header_length_in, packet_rules, total_length_in}
use Rattle.gtpu_path.specs.declared.packet.PacketRefused.TheVariants.{NoPorts}
use Rattle.gtpu_path.specs.Rules.{AreMet, rule}

neither : (a b : Bool) → (a || b) ≡ false → b ≡ false
neither true b h = absurd cc
neither false b h = h

-- a packet ends within its octets
pub ends_within : (octets : List ℕ) → AreMet (packet_rules octets) → total_length_in octets ≤ length octets
ends_within octets met =
    let holds = met 3 (rule false NoPorts) (omega arith) in
    let within = neither (nat_lt (total_length_in octets) (header_length_in octets)) (nat_lt (length octets) (total_length_in octets)) holds in
    grind (arith, within)
