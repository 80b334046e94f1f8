use Rattle.std.proofs.Common.{arith}
use Rattle.cluster_replay.proofs.Sized.{owners_counted, sized}
use Rattle.cluster_replay.proofs.cluster.Cluster.owner_count.Goals as goal

pub returns-clause-count : goal.returns-clause-count
returns-clause-count c =
    let i = c.self.inside in
    let many = owners_counted i.shape i.flows.items i.owners.items i.nodes.items c.self.invariant i.lacks_memory c.args.self.now c.self.view_is in
    omega (arith, many, c.len.ensures)

pub returns-clause-sized : goal.returns-clause-sized
returns-clause-sized c =
    let i = c.self.inside in
    sized i.shape i.flows.items i.owners.items i.nodes.items c.self.invariant i.lacks_memory c.args.self.now c.self.view_is
