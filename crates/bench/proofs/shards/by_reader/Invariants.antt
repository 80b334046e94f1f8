use Rattle.replica_shard.specs.Seats.{IsShardReaderOf}
use Rattle.bench.proofs.shards.by_reader.Given as goal

abbrev pub invariant-flows : goal.invariant-flows
invariant-flows l = IsShardReaderOf l.fn.shard l.reader
