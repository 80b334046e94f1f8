use Rattle.delta_codec.specs.declared.message.Message.TheVariants.{Fib}
use Rattle.turn_log.proofs.ShortFib.{is_read, no_refusal, no_rows}
use Rattle.turn_log.proofs.Spelled.{begins_there}
use Rattle.turn_log.proofs.octets.fib_at.Goals as goal

pub unreachable-requires : goal.unreachable-requires
unreachable-requires c =
    let is = c.requires.1 in
    no_refusal c.args.shape _ c.requires.0 is.used (begins_there c.args.shape c.args.octets.now c.args.at (Fib c.requires.0) is) is.sized c.in_default.field-0 c.in_default.ensures.fault

pub unreachable-requires-in_default-read : goal.unreachable-requires-in_default-read
unreachable-requires-in_default-read c =
    let is = c.requires.1 in
    no_rows c.args.shape _ c.requires.0 is.used (begins_there c.args.shape c.args.octets.now c.args.at (Fib c.requires.0) is) (c.in-Ok.ensures.rows c.in_default-read.is)

pub fib_of-requires : goal.fib_of-requires
fib_of-requires c =
    let is = c.requires.1 in (
      c.requires.0,
      is_read (Fib c.requires.0) is.used c.in-Ok.read c.in-Some.short c.in-Some.field-0-1 c.in-Some.is
          (c.in-Ok.ensures.only (Fib c.requires.0) is.used is.sized (begins_there c.args.shape c.args.octets.now c.args.at (Fib c.requires.0) is)),
    )

pub returns : goal.returns
returns c message is =
    c.fib_of.ensures message
    (is_read (Fib message) is.used c.in-Ok.read c.in-Some.short c.in-Some.field-0-1 c.in-Some.is
    (c.in-Ok.ensures.only (Fib message) is.used is.sized (begins_there c.args.shape c.args.octets.now c.args.at (Fib message) is)))
