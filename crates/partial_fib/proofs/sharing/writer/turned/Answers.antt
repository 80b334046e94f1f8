use Rattle.std.proofs.Common.{ap, arith, length}
use Rattle.partial_fib.specs.Rule.{opening_of}
use Rattle.partial_fib.proofs.TurnSteps.{taken_is_length}
use Rattle.partial_fib.proofs.sharing.writer.turned.Goals as goal

pub add-requires : goal.add-requires
add-requires g c =
    let x = c.args.pen.desk.shown.value in
    let taken = taken_is_length (opening_of x) x.past.log c.requires.right.unturned in
    record {
      room = omega (arith, c.requires.fits.last_turn, c.requires.next.next, ap (λ fib. fib.taken) c.requires.right.turned, taken, ap length c.requires.author.1);
    }
