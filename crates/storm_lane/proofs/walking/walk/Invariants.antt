-- The replies so far are the lane's, and a walk that goes on from here is one from the beginning on.
use Rattle.std.proofs.Common.{◌≡◌, ◌+◌, ◌≤◌, drop}
use Rattle.storm_lane.specs.Lane.{all_seats, lists_of, parts_of}
use Rattle.storm_lane.specs.Stepping.{WalksSoFar}
use Rattle.storm_lane.proofs.walking.walk.Given as goal

abbrev pub invariant-events : goal.invariant-events
invariant-events g l = record {
  numbered : l.packet ≤ l.first + l.event-index;
  seats : all_seats l.readers ≡ all_seats l.fn.readers;
  far : WalksSoFar l.shape (parts_of (all_seats l.fn.readers)) l.lanes l.lane (lists_of l.fn.readers) l.first l.events l.fn.replies.items
      (lists_of l.readers) l.packet (drop l.event-index l.events) l.replies.items;
}
