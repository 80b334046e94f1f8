use Rattle.embed_cluster.specs.Parts.{IsSameOwner, Stands}
use Rattle.embed_cluster.proofs.owner.own_each.Given as goal

abbrev pub invariant-updates : goal.invariant-updates
invariant-updates g l = Stands l.phase.shape l.phase.flows.now l.owner × IsSameOwner l.fn.owner l.owner
