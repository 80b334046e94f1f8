use Rattle.replica_shard.specs.Seats.{IsShardWriterOf}
use Rattle.bench.proofs.shards.take.Given as goal

abbrev pub invariant-turns : goal.invariant-turns
invariant-turns l = IsShardWriterOf l.fn.shard l.writer
