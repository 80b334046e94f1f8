use Rattle.replica_shard.proofs.DeltaFacts.{tell}
use Rattle.replica_shard.proofs.TurnFacts.{turns_make}
use Rattle.replica_shard.proofs.laws.turns_make_the_table.Goals as goal

pub returns : goal.returns
returns c = record { table = turns_make; list = tell }
