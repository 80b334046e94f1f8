use Rattle.std.proofs.Common.{◌+◌, [], ◌∷◌, arith}
use Rattle.flow_types.specs.Key.{octets}
use Rattle.delta_codec.proofs.Keys.{octets-long}
use Rattle.delta_codec.proofs.Standing.{Stand-append}
use Rattle.delta_codec.proofs.content.read_row.Goals as goal

pub returns-clause-stands : goal.returns-clause-stands
returns-clause-stands c =
    let key = c.in_ok-key.key in
    Stand-append c.args.bytes.now c.args.at (c.args.at + 13) (octets key) (c.in_ok-node.node ∷ []) (omega (arith, octets-long key)) c.in_ok-key.ensures.stands c.in_ok-node.ensures.stands
