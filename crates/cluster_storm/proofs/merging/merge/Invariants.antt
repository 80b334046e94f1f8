-- The replies so far are those of the events so far, whatever is merged of the events that are left.
use Rattle.std.proofs.Common.{◌≡◌, ◌+◌, ◌≤◌, length, drop}
use Rattle.storm_model.specs.Merging.{queues_of}
use Rattle.cluster_storm.proofs.Merges.{MergesSoFar}
use Rattle.cluster_storm.proofs.merging.merge.Given as goal

abbrev pub invariant-events : goal.invariant-events
invariant-events l = record {
  lanes_are : length l.by_lane ≡ l.lanes;
  owners_are : length l.owners ≡ l.shape.nodes;
  numbered : l.packet ≤ l.first + l.event-index;
  far : MergesSoFar l.shape l.lanes (queues_of l.fn.owners) (queues_of l.fn.by_lane) l.first l.events l.fn.replies.items
      (queues_of l.owners) (queues_of l.by_lane) l.packet (drop l.event-index l.events) l.replies.items;
}
