use Rattle.std.proofs.Common.{length, ap, arith}
use Rattle.delta_codec.specs.declared.message.Message.{Message}
use Rattle.delta_codec.specs.Spelling.{spelling}
use Rattle.turn_log.proofs.Longest.{drop_long}
use Rattle.turn_log.proofs.sending.send_drop.Goals as goal

pub put_message-requires-clause-room : goal.put_message-requires-clause-room
put_message-requires-clause-room c =
    omega (arith, c.requires.room, drop_long c.args.head c.args.key, ap (λ (m : Message). length (spelling m)) c.fib.ensures)
