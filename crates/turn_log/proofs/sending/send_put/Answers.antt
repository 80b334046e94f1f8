use Rattle.std.proofs.Common.{length, ap, arith}
use Rattle.delta_codec.specs.declared.message.Message.{Message}
use Rattle.delta_codec.specs.Spelling.{spelling}
use Rattle.turn_log.proofs.Longest.{put_long}
use Rattle.turn_log.proofs.sending.send_put.Goals as goal

pub put_message-requires-clause-room : goal.put_message-requires-clause-room
put_message-requires-clause-room c =
    omega (arith, c.requires.room, put_long c.args.head c.args.key c.in-Some.info, ap (λ (m : Message). length (spelling m)) c.fib.ensures)

pub returns-in-Some-clause-len : goal.returns-in-Some-clause-len
returns-in-Some-clause-len c =
    omega (arith, c.put_message.ensures.len, put_long c.args.head c.args.key c.in-Some.info, ap (λ (m : Message). length (spelling m)) c.fib.ensures)
