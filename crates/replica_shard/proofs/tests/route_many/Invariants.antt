use Rattle.replica_shard.specs.Seats.{IsShardReaderOf}
use Rattle.replica_shard.proofs.tests.route_many.Given as goal

abbrev pub invariant-routes : goal.invariant-routes
invariant-routes l = IsShardReaderOf l.fn.shard l.reader
