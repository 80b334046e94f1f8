use Rattle.replica_shard.specs.Seats.{IsShardWriterOf}
use Rattle.replica_shard.proofs.tests.take_many.Given as goal

abbrev pub invariant-turns : goal.invariant-turns
invariant-turns l = IsShardWriterOf l.fn.shard l.writer
