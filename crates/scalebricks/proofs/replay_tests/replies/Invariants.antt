-- The cluster keeps its shape.
use Rattle.std.proofs.Common.{◌≡◌}
use Rattle.scalebricks.proofs.replay_tests.replies.Given as goal

abbrev pub invariant-events : goal.invariant-events
invariant-events g l = l.cluster.cluster.opened.size ≡ l.shape
