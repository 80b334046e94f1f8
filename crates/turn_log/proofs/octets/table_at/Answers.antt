use Rattle.std.proofs.Common.{◌≡◌}
use Rattle.delta_codec.specs.declared.message.Message.TheVariants.{Table}
use Rattle.turn_log.proofs.octets.table_at.Goals as goal

pub unreachable-requires : goal.unreachable-requires
unreachable-requires c =
    let read : c.message_at.result ≡ Table c.requires.0 = c.message_at.ensures (Table c.requires.0) c.requires.1 in
    cc

pub returns : goal.returns
returns c message is =
    let read : c.message_at.result ≡ Table message = c.message_at.ensures (Table message) is in
    cc
