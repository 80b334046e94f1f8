use Rattle.partial_fib.proofs.TurnFacts.{goes_on}
use Rattle.partial_fib.proofs.laws.a_turn_goes_on.Goals as goal

pub returns : goal.returns
returns c = goes_on
