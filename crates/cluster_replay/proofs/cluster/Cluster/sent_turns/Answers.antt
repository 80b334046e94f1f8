use Rattle.std.proofs.Common.{◌∙◌, arith}
use Rattle.cluster_replay.proofs.Sized.{owner_index, sent_is}
use Rattle.cluster_replay.proofs.cluster.Cluster.sent_turns.Goals as goal

pub index-requires : goal.index-requires
index-requires c =
    let i = c.self.inside in
    let low = owner_index i.shape i.flows.items i.owners.items i.nodes.items c.self.invariant i.lacks_memory c.args.self.now c.self.view_is c.args.owner c.requires in
    omega (arith, low, c.from.ensures)

pub returns : goal.returns
returns c =
    let i = c.self.inside in
    c.turns.ensures ∙ sent_is i.shape i.flows.items i.owners.items i.nodes.items c.self.invariant i.lacks_memory c.args.self.now c.self.view_is c.args.owner c.requires c.index.result.now (rw (← c.from.ensures) c.index.ensures)
