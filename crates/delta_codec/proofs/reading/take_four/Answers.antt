use Rattle.std.proofs.Common.{arith}
use Rattle.delta_codec.proofs.Standing.{four_stand}
use Rattle.delta_codec.proofs.reading.take_four.Goals as goal

pub returns-clause-stands : goal.returns-clause-stands
returns-clause-stands c =
    four_stand c.args.bytes.now c.in_ok-octets.octets.now c.args.at _ (λ i. omega (arith, c.type_inv.bytes i)) c.in_ok-octets.ensures.found.0 c.in_ok-octets.ensures.found.1 c.from_be_bytes.ensures
