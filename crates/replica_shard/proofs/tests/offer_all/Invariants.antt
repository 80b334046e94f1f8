use Rattle.replica_shard.specs.Seats.{IsShardWriterOf}
use Rattle.replica_shard.proofs.tests.offer_all.Given as goal

abbrev pub invariant-offers : goal.invariant-offers
invariant-offers g l = IsShardWriterOf l.shard l.writer
