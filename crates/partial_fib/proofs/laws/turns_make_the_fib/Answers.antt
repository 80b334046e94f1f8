use Rattle.partial_fib.proofs.TurnFacts.{turns_make}
use Rattle.partial_fib.proofs.laws.turns_make_the_fib.Goals as goal

pub returns : goal.returns
returns c = turns_make
