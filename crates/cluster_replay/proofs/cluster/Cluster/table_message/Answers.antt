use Rattle.std.proofs.Common.{arith}
use Rattle.cluster_replay.proofs.HeldMessages.{message_told, owner_index, stands, turn_known}
use Rattle.cluster_replay.proofs.cluster.Cluster.table_message.Goals as goal

pub index-requires : goal.index-requires
index-requires c =
    let i = c.self.inside in
    let a = c.args in
    let low = owner_index i.shape i.flows.items i.owners.items i.nodes.items c.self.invariant i.lacks_memory a.self.now c.self.view_is a.owner a.turn c.requires.owner in
    omega (arith, low, c.from.ensures)

pub table_message-requires-clause-last : goal.table_message-requires-clause-last
table_message-requires-clause-last c =
    let i = c.self.inside in
    let a = c.args in
    let r = c.requires in
    turn_known i.shape i.flows.items i.owners.items i.nodes.items c.self.invariant i.lacks_memory a.self.now c.self.view_is a.owner a.turn r.owner c.index.result.now (rw (← c.from.ensures) c.index.ensures) r.sent

pub returns : goal.returns
returns c =
    let i = c.self.inside in
    let a = c.args in
    let r = c.requires in
    let sender = stands i.shape i.flows.items i.owners.items i.nodes.items c.self.invariant i.lacks_memory a.self.now c.self.view_is a.owner a.turn r.owner c.index.result.now (rw (← c.from.ensures) c.index.ensures) in
    message_told i.shape i.flows.items i.owners.items i.nodes.items c.self.invariant i.lacks_memory a.self.now c.self.view_is a.owner a.turn r.owner c.index.result.now (rw (← c.from.ensures) c.index.ensures)
    c.table_message.result c.table_message.ensures.fits (c.table_message.ensures.of_turn i.shape a.owner i.flows.items sender)
