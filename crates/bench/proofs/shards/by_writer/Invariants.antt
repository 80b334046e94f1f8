use Rattle.replica_shard.specs.Seats.{IsShardWriterOf}
use Rattle.bench.proofs.shards.by_writer.Given as goal

abbrev pub invariant-flows : goal.invariant-flows
invariant-flows l = IsShardWriterOf l.fn.shard l.writer
