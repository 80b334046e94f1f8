-- So far the parts of the owners before this one are made, and the lanes read them.
use Rattle.std.proofs.Common.{◌≡◌, ◌+◌, ◌≤◌, ℕ, [], Some, length, vec_capacity}
use Rattle.std.specs.List.{slice_get}
use Rattle.std.specs.Vec.Iter.{into_iter_items, into_iter_len}
use Rattle.replica_shard.specs.Shard.{shard_after}
use Rattle.replica_shard.specs.Store.{ShardStore, shard_state_of}
use Rattle.partial_fib.specs.Fib.{fib_after}
use Rattle.partial_fib.specs.Store.{FibStore, state_of}
use Rattle.flow_types.specs.Size.{owners_in}
use Rattle.turn_relay.specs.Each.{AllFrom, Every}
use Rattle.turn_relay.specs.Linking.{IsFresh}
use Rattle.turn_relay.specs.PartState.{PartState}
use Rattle.cluster_storm.specs.Seating.{ReadsSoFar, column_with}
use Rattle.cluster_storm.proofs.seating.seat_parts.Given as goal

abbrev pub invariant-owners : goal.invariant-owners
invariant-owners g l = record {
  owners : l.owners ≡ owners_in l.fn.shape;
  tables : AllFrom (λ (owner : ℕ) (table : ShardStore). shard_state_of table ≡ shard_after l.fn.shape owner l.fn.flows []) l.owner (into_iter_items l.tables);
  fibs : AllFrom (λ (owner : ℕ) (fib : FibStore). state_of fib ≡ fib_after l.fn.shape (length l.fn.appliers) owner l.fn.flows []) l.owner (into_iter_items l.fibs);
  tables_left : l.owner + into_iter_len l.tables ≡ l.owners;
  fibs_left : l.owner + into_iter_len l.fibs ≡ l.owners;
  many : length l.parts.items ≡ l.owner;
  room : l.owners ≤ vec_capacity l.parts;
  fresh : (owner : ℕ) (part : PartState) → slice_get l.parts.items owner ≡ Some part → IsFresh l.fn.shape l.fn.flows (length l.fn.appliers) owner part;
  lanes : length l.lanes ≡ length l.initial.lanes;
  reads : Every (λ lane. ReadsSoFar l.fn.shape (column_with l.fn.appliers l.parts.items) lane.items) l.lanes;
}
