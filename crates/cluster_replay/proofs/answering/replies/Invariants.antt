-- The replies so far and those to the events that are left are the replies to all.
use Rattle.cluster_replay.proofs.Replied.{AreReplied}
use Rattle.cluster_replay.proofs.answering.replies.Given as goal

abbrev pub invariant-events : goal.invariant-events
invariant-events l = record {
  so_far : AreReplied l.initial.cluster.cluster l.script l.cluster.cluster l.event-index l.replies.items;
}
