-- So far the owners' readers are none, in the owners' order.
use Rattle.std.proofs.Common.{◌≡◌, ◌≤◌, ℕ, [], Some, length, vec_capacity}
use Rattle.std.specs.List.{slice_get}
use Rattle.storm_lane.specs.Readers.{ReadersState}
use Rattle.cluster_storm.proofs.seating.empty_lane.Given as goal

abbrev pub invariant-owners : goal.invariant-owners
invariant-owners l = record {
  many : length l.lane.items ≡ l.owner;
  room : l.owners ≤ vec_capacity l.lane;
  none : (owner : ℕ) (own : ReadersState) → slice_get l.lane.items owner ≡ Some own → own ≡ record { size = l.shape; owner = owner; views = []; fibs = [] };
}
