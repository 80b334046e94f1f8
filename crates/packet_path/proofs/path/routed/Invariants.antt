-- The reader is the shard's, and has seen what it had seen at first.
use Rattle.std.proofs.Common.{◌≤◌}
use mathlib.Core.List.{IsPrefix}
use Rattle.replica_shard.specs.Seats.{IsShardReaderOf, first_loads, seen_list}
use Rattle.packet_path.proofs.path.routed.Given as goal

abbrev pub invariant-routes : goal.invariant-routes
invariant-routes g l = record {
  next : (goal.iterator-routes g).can_next l.iterator';
  finite : (goal.iterator-routes g).is_finite l.iterator';
  reader : IsShardReaderOf l.shard l.reader;
  later : IsPrefix (seen_list l.shard l.fn.reader) (seen_list l.shard l.reader);
  looks : first_loads l.fn.reader ≤ first_loads l.reader;
}
