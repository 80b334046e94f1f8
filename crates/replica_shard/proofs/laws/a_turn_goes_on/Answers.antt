use Rattle.replica_shard.proofs.TurnFacts.{goes_on}
use Rattle.replica_shard.proofs.laws.a_turn_goes_on.Goals as goal

pub returns : goal.returns
returns c = goes_on
