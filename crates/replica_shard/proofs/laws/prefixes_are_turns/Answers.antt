use Rattle.replica_shard.proofs.Prefixes.{prefixes}
use Rattle.replica_shard.proofs.laws.prefixes_are_turns.Goals as goal

pub returns : goal.returns
returns c = prefixes
