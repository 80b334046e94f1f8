-- So far the lanes have no readers.
use Rattle.std.proofs.Common.{◌≡◌, ◌≤◌, [], length, vec_capacity}
use Rattle.turn_relay.specs.Each.{Every}
use Rattle.cluster_storm.specs.Seating.{ReadsSoFar, column}
use Rattle.cluster_storm.proofs.seating.empty_lanes.Given as goal

abbrev pub invariant-lanes : goal.invariant-lanes
invariant-lanes l = record {
  many : length l.all.items ≡ l.counter;
  room : l.lanes ≤ vec_capacity l.all;
  none : Every (λ lane. ReadsSoFar l.shape (column []) lane.items) l.all.items;
}
