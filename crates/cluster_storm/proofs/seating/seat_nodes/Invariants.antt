-- So far the nodes before this one are seated.
use Rattle.std.proofs.Common.{◌≡◌, ◌+◌, ◌≤◌, ℕ, Some, length, vec_capacity}
use Rattle.std.specs.List.{slice_get}
use Rattle.std.specs.Vec.Iter.{into_iter_items, into_iter_len}
use Rattle.cluster_open.specs.Opened.{IsOpenedNode}
use Rattle.turn_relay.specs.Each.{AllFrom, Every}
use Rattle.turn_relay.specs.PartState.{ApplierState}
use Rattle.cluster_storm.specs.Opening.{IsFreshNode}
use Rattle.cluster_storm.specs.Seating.{ReadsSoFar, column}
use Rattle.cluster_storm.proofs.seating.seat_nodes.Given as goal

abbrev pub invariant-nodes : goal.invariant-nodes
invariant-nodes g l = record {
  nodes : AllFrom (IsOpenedNode l.shape l.flows) (length l.appliers.items) (into_iter_items l.node-iterator);
  left : length l.appliers.items + into_iter_len l.node-iterator ≡ l.shape.nodes;
  room : length l.appliers.items + into_iter_len l.node-iterator ≤ vec_capacity l.appliers;
  fresh : (node : ℕ) (applier : ApplierState) → slice_get l.appliers.items node ≡ Some applier → IsFreshNode l.shape l.flows node applier;
  lanes : length l.lanes ≡ length l.initial.lanes;
  reads : Every (λ lane. ReadsSoFar l.shape (column l.appliers.items) lane.items) l.lanes;
}
