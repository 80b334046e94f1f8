use Rattle.turn_log.proofs.Spelled.{begins_there, no_refusal, one_message}
use Rattle.turn_log.proofs.octets.message_at.Goals as goal

pub unreachable-requires : goal.unreachable-requires
unreachable-requires c =
    let is = c.requires.1 in
    no_refusal c.decode.result (c.requires.0, is.used) c.in-Err.field-0
    (c.decode.ensures.only c.requires.0 is.used is.sized (begins_there c.args.shape c.args.octets.now c.args.at c.requires.0 is)) c.in-Err.is

pub returns : goal.returns
returns c message is =
    one_message c.in-Ok.message message c.in-Ok.field-0-1 is.used
    (c.in-Ok.ensures.only message is.used is.sized (begins_there c.args.shape c.args.octets.now c.args.at message is))
