-- The lanes with the readers so far, and the readers that are left.
use Rattle.std.proofs.Common.{◌≡◌, ◌++◌, length, map}
use Rattle.std.specs.Vec.Iter.{into_iter_items, into_iter_len}
use Rattle.storm_lane.specs.Lane.{LaneState}
use Rattle.turn_relay.specs.Each.{AllFrom}
use Rattle.cluster_storm.specs.Opening.{IsLaneOf}
use Rattle.cluster_storm.proofs.making.lanes_of.Given as goal

abbrev pub invariant-readers : goal.invariant-readers
invariant-readers l = record {
  whole : l.yielded ++ into_iter_items l.own-iterator ≡ l.fn.readers.items;
  left : into_iter_len l.own-iterator ≡ length (into_iter_items l.own-iterator);
  of : map (λ (lane : LaneState). lane.readers) l.made.items ≡ map (λ own. own.items) l.yielded;
  numbered : AllFrom (IsLaneOf l.shape l.lanes) 0 l.made.items;
}
