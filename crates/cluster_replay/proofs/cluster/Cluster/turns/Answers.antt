use Rattle.std.proofs.Common.{◌≡◌, ◌∙◌, ◌<◌, length, get_or, sym, ap, subst, arith}
use Rattle.packet_reader.specs.declared.event.Part.{Part}
use Rattle.run_model.specs.Carrying.{turns_taken}
use Rattle.cluster_replay.specs.Cluster.{NodeStore}
use Rattle.cluster_replay.proofs.Sized.{fib_index, fib_taken, fib_within, shard_index, shard_taken, shard_within, node_index, sized}
use Rattle.cluster_replay.proofs.cluster.Cluster.turns.Goals as goal

pub index-node-requires : goal.index-node-requires
index-node-requires c =
    let i = c.self.inside in
    let low = node_index i.shape i.flows.items i.owners.items i.nodes.items c.self.invariant i.lacks_memory c.args.self.now c.self.view_is c.args.owner c.requires.owner c.args.node c.requires.node in
    omega (arith, low, c.from.ensures)

pub index-requires : goal.index-requires
index-requires c =
    let i = c.self.inside in
    let low = subst (λ (n : NodeStore). c.args.owner < length n.shards) (sym c.node.view_is) (shard_index i.shape i.flows.items i.owners.items i.nodes.items c.self.invariant i.lacks_memory c.args.self.now c.self.view_is c.args.owner c.requires.owner c.args.node c.requires.node
    c.index-node.result.now (rw (← c.from.ensures) c.index-node.ensures)) in
    omega (arith, low, c.from-in-Table.ensures)

pub returns-in-Table-clause-taken : goal.returns-in-Table-clause-taken
returns-in-Table-clause-taken c =
    let i = c.self.inside in
    c.taken.ensures
    ∙ shard_taken i.shape i.flows.items i.owners.items i.nodes.items c.self.invariant i.lacks_memory c.args.self.now c.self.view_is c.args.owner c.requires.owner c.args.node c.requires.node
    c.index-node.result.now (rw (← c.from.ensures) c.index-node.ensures)
    c.index.result.now (rw (← c.from-in-Table.ensures) (subst (λ (n : NodeStore). c.index.result.now ≡ get_or n.shards c.from-in-Table.result c.index.result.now) c.node.view_is c.index.ensures))
    ∙ ap (λ (part : Part). turns_taken part c.args.self.now.cluster.nodes c.args.node c.args.owner) (sym c.in-Table.is)

pub returns-in-Table-clause-sent : goal.returns-in-Table-clause-sent
returns-in-Table-clause-sent c =
    let i = c.self.inside in
    let within = shard_within i.shape i.flows.items i.owners.items i.nodes.items c.self.invariant i.lacks_memory c.args.self.now c.self.view_is c.args.owner c.requires.owner c.args.node c.requires.node
    c.index-node.result.now (rw (← c.from.ensures) c.index-node.ensures)
    c.index.result.now (rw (← c.from-in-Table.ensures) (subst (λ (n : NodeStore). c.index.result.now ≡ get_or n.shards c.from-in-Table.result c.index.result.now) c.node.view_is c.index.ensures)) in
    omega (arith, within, c.taken.ensures)

pub returns-in-Table-clause-sized : goal.returns-in-Table-clause-sized
returns-in-Table-clause-sized c =
    let i = c.self.inside in
    sized i.shape i.flows.items i.owners.items i.nodes.items c.self.invariant i.lacks_memory c.args.self.now c.self.view_is

pub index-requires-in-Fib : goal.index-requires-in-Fib
index-requires-in-Fib c =
    let i = c.self.inside in
    let low = subst (λ (n : NodeStore). c.args.owner < length n.fibs) (sym c.node.view_is) (fib_index i.shape i.flows.items i.owners.items i.nodes.items c.self.invariant i.lacks_memory c.args.self.now c.self.view_is c.args.owner c.requires.owner c.args.node c.requires.node
    c.index-node.result.now (rw (← c.from.ensures) c.index-node.ensures)) in
    omega (arith, low, c.from-in-Fib.ensures)

pub returns-in-Fib-clause-taken : goal.returns-in-Fib-clause-taken
returns-in-Fib-clause-taken c =
    let i = c.self.inside in
    c.taken-in-Fib.ensures
    ∙ fib_taken i.shape i.flows.items i.owners.items i.nodes.items c.self.invariant i.lacks_memory c.args.self.now c.self.view_is c.args.owner c.requires.owner c.args.node c.requires.node
    c.index-node.result.now (rw (← c.from.ensures) c.index-node.ensures)
    c.index-in-Fib.result.now (rw (← c.from-in-Fib.ensures) (subst (λ (n : NodeStore). c.index-in-Fib.result.now ≡ get_or n.fibs c.from-in-Fib.result c.index-in-Fib.result.now) c.node.view_is c.index-in-Fib.ensures))
    ∙ ap (λ (part : Part). turns_taken part c.args.self.now.cluster.nodes c.args.node c.args.owner) (sym c.in-Fib.is)

pub returns-in-Fib-clause-sent : goal.returns-in-Fib-clause-sent
returns-in-Fib-clause-sent c =
    let i = c.self.inside in
    let within = fib_within i.shape i.flows.items i.owners.items i.nodes.items c.self.invariant i.lacks_memory c.args.self.now c.self.view_is c.args.owner c.requires.owner c.args.node c.requires.node
    c.index-node.result.now (rw (← c.from.ensures) c.index-node.ensures)
    c.index-in-Fib.result.now (rw (← c.from-in-Fib.ensures) (subst (λ (n : NodeStore). c.index-in-Fib.result.now ≡ get_or n.fibs c.from-in-Fib.result c.index-in-Fib.result.now) c.node.view_is c.index-in-Fib.ensures)) in
    omega (arith, within, c.taken-in-Fib.ensures)

pub returns-in-Fib-clause-sized : goal.returns-in-Fib-clause-sized
returns-in-Fib-clause-sized c =
    let i = c.self.inside in
    sized i.shape i.flows.items i.owners.items i.nodes.items c.self.invariant i.lacks_memory c.args.self.now c.self.view_is
