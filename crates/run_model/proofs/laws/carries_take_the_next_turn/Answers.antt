-- The law.
use Rattle.run_model.proofs.NextTurns.{carries_take_the_next_turn}
use Rattle.run_model.proofs.laws.carries_take_the_next_turn.Goals as goal

pub returns : goal.returns
returns c = carries_take_the_next_turn
