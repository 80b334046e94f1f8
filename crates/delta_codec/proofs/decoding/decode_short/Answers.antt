use Rattle.delta_codec.specs.Short.{message_of}
use Rattle.delta_codec.proofs.Starts.{no_other}
use Rattle.delta_codec.proofs.decoding.decode_short.Goals as goal

pub returns-in-Short-clause-only : goal.returns-in-Short-clause-only
returns-in-Short-clause-only c message used sized h =
    let starts = rw (c.in-Short.is) at c.in_ok-message.ensures.starts in
    no_other c.args.shape c.args.bytes.now (message_of c.in-Short.message) message c.in-Short.used used starts.1 sized starts.0 h
