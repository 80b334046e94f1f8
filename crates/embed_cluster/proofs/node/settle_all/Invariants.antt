use Rattle.std.proofs.Common.{◌≡◌}
use Rattle.embed_cluster.specs.Parts.{IsSameNode}
use Rattle.embed_cluster.proofs.node.settle_all.Given as goal

abbrev pub invariant-left : goal.invariant-left
invariant-left g l = (goal.iterator-left g).can_next l.iterator' × (goal.iterator-left g).is_finite l.iterator' × (l.end ≡ l.fn.end) × IsSameNode l.fn.node l.node
