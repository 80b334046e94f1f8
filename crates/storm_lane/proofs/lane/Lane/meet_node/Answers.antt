-- The owner's readers met, and the lane's others are as they were.
use Rattle.std.proofs.Common.{◌≡◌, ◌<◌, Some, length, set, subst, sym}
use Rattle.std.specs.List.{slice_get}
use Rattle.storm_lane.specs.Lane.{LaneState, all_seats, table_shard}
use Rattle.storm_lane.specs.Work.{MeetsAt}
use Rattle.storm_lane.proofs.LanesSeen.{has-readers, meets, still-lane, there-where}
use Rattle.storm_lane.proofs.lane.Lane.meet_node.Given as given
use Rattle.storm_lane.proofs.lane.Lane.meet_node.Goals as goal

module _ (g : given.Over) (c : goal.After-self-1 g) where
  abbrev before : LaneState
  before = record {
    size = c.self.inside.shape;
    number = c.self.inside.number;
    lanes = c.self.inside.lanes;
    readers = c.self.inside.readers.items;
    replies = c.self.inside.replies.items;
    failed = c.self.inside.failed;
  }

  low : c.args.owner < length before.readers
  low =
      has-readers before.readers c.args.node c.args.owner c.args.table.now.shard
      (subst (λ (l : LaneState). table_shard (all_seats l.readers) c.args.node c.args.owner ≡ Some c.args.table.now.shard) (sym c.self.view_is) c.requires.table)

  there : slice_get before.readers c.args.owner ≡ Some c.index_mut-readers.result.now
  there = there-where before.readers c.args.owner c.index_mut-readers.result.now low c.index_mut-readers.ensures.value

pub invariant_of-self : goal.invariant_of-self
invariant_of-self g c = still-lane (before g c) c.self.invariant c.args.owner c.index_mut-readers.result.now c.meet_node.new.self (there g c) c.meet_node.ensures.seats

pub returns-clause-met : goal.returns-clause-met
returns-clause-met g c =
    let after : LaneState = record (before g c) { readers = set (before g c).readers c.args.owner c.meet_node.new.self } in
    subst (λ (l : LaneState). MeetsAt c.args.node c.args.owner c.args.table.now.list c.args.fib.now.turns l after) c.self.view_is
    (meets (before g c) c.args.owner c.args.node c.index_mut-readers.result.now c.meet_node.new.self (there g c) c.args.table.now.list c.args.fib.now.turns
    c.meet_node.ensures.seats c.meet_node.ensures.more c.meet_node.ensures.others c.meet_node.ensures.records c.meet_node.ensures.turns)
