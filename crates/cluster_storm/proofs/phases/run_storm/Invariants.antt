-- The storm rests, linked for the whole script, and the events before those that are left are answered.
use Rattle.std.proofs.Common.{length}
use Rattle.cluster_storm.specs.Rest.{AreLinkedFor, IsAtRest, state_of}
use Rattle.cluster_storm.proofs.Storming.{StormsSoFar}
use Rattle.cluster_storm.proofs.phases.run_storm.Given as goal

abbrev pub invariant-phases : goal.invariant-phases
invariant-phases g l = record {
  rests : IsAtRest l.storm;
  linked : AreLinkedFor l.storm l.script;
  far : StormsSoFar (state_of l.fn.storm) l.script (state_of l.storm) l.left l.next.packet l.next.update l.replies.items;
}

abbrev pub decreases-phases : goal.decreases-phases
decreases-phases g l = length l.left
