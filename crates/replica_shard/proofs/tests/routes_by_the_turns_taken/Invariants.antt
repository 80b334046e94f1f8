use Rattle.replica_shard.specs.Seats.{IsShardReaderOf, IsShardWriterOf}
use Rattle.replica_shard.proofs.tests.routes_by_the_turns_taken.Given as goal

abbrev pub invariant-ports : goal.invariant-ports
invariant-ports g l = IsShardReaderOf l.shard l.reader × IsShardWriterOf l.shard l.w
