-- The cluster keeps its shape.
use Rattle.std.proofs.Common.{◌≡◌}
use Rattle.scalebricks.proofs.replay_tests.a_sync_brings_every_node_up.Given as goal

abbrev pub invariant-nodes : goal.invariant-nodes
invariant-nodes g l = l.cluster.cluster.opened.size ≡ l.shape
