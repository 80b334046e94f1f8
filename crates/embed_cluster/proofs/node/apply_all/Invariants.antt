use Rattle.embed_cluster.specs.Parts.{AreSameNodes}
use Rattle.embed_cluster.proofs.node.apply_all.Given as goal

abbrev pub invariant-looks : goal.invariant-looks
invariant-looks g l =
    (goal.iterator-looks g).can_next l.iterator' × (goal.iterator-looks g).is_finite l.iterator' × AreSameNodes l.fn.nodes l.nodes
