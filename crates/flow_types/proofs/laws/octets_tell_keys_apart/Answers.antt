use Rattle.std.proofs.Common.{arith}
use Rattle.flow_types.proofs.Octets.{same_octets}
use Rattle.flow_types.proofs.laws.octets_tell_keys_apart.Goals as goal

pub returns : goal.returns
returns c = same_octets c.args.key c.args.other
    (record { source = omega arith; destination = omega arith; source_port = omega arith; destination_port = omega arith; protocol = omega arith })
    (record { source = omega arith; destination = omega arith; source_port = omega arith; destination_port = omega arith; protocol = omega arith })
