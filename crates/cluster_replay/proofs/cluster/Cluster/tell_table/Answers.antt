use Rattle.std.proofs.Common.{arith}
use Rattle.cluster_replay.proofs.Held.{node_index, table_carried, table_fits, table_has_room, table_own, table_there}
use Rattle.cluster_replay.proofs.HeldMessages.{message_fits, message_is, teller, teller_is}
use Rattle.cluster_replay.proofs.cluster.Cluster.tell_table.Goals as goal

pub index_mut-requires : goal.index_mut-requires
index_mut-requires c =
    let i = c.self.inside in
    let a = c.args in
    let r = c.requires in
    let low = node_index i.shape i.flows.items i.owners.items i.nodes.items c.self.invariant i.lacks_memory a.self.now c.self.view_is a.owner a.node a.turn r.owner r.node r.sent in
    omega (arith, low, c.from.ensures)

pub take_table-requires-clause-there : goal.take_table-requires-clause-there
take_table-requires-clause-there c =
    let i = c.self.inside in
    let a = c.args in
    let r = c.requires in
    table_there i.shape i.flows.items i.owners.items i.nodes.items c.self.invariant i.lacks_memory a.self.now c.self.view_is a.owner a.node a.turn r.owner r.node r.sent
    (teller i.shape i.flows.items i.owners.items i.nodes.items c.self.invariant i.lacks_memory a.self.now c.self.view_is a.owner a.turn r.owner)
    (teller_is i.shape i.flows.items i.owners.items i.nodes.items c.self.invariant i.lacks_memory a.self.now c.self.view_is a.owner a.turn r.owner)
    c.index_mut.result.now (rw (← c.from.ensures) c.index_mut.ensures.value) a.message.now
    (message_is i.shape i.flows.items i.owners.items i.nodes.items c.self.invariant i.lacks_memory a.self.now c.self.view_is a.owner a.turn r.owner a.message.now r.told)

pub take_table-requires-clause-own : goal.take_table-requires-clause-own
take_table-requires-clause-own c =
    let i = c.self.inside in
    let a = c.args in
    let r = c.requires in
    table_own i.shape i.flows.items i.owners.items i.nodes.items c.self.invariant i.lacks_memory a.self.now c.self.view_is a.owner a.node a.turn r.owner r.node r.sent
    (teller i.shape i.flows.items i.owners.items i.nodes.items c.self.invariant i.lacks_memory a.self.now c.self.view_is a.owner a.turn r.owner)
    (teller_is i.shape i.flows.items i.owners.items i.nodes.items c.self.invariant i.lacks_memory a.self.now c.self.view_is a.owner a.turn r.owner)
    c.index_mut.result.now (rw (← c.from.ensures) c.index_mut.ensures.value) a.message.now
    (message_is i.shape i.flows.items i.owners.items i.nodes.items c.self.invariant i.lacks_memory a.self.now c.self.view_is a.owner a.turn r.owner a.message.now r.told)

pub take_table-requires-clause-fits : goal.take_table-requires-clause-fits
take_table-requires-clause-fits c =
    let i = c.self.inside in
    let a = c.args in
    let r = c.requires in
    table_fits i.shape i.flows.items i.owners.items i.nodes.items c.self.invariant i.lacks_memory a.self.now c.self.view_is a.owner a.node a.turn r.owner r.node r.sent
    (teller i.shape i.flows.items i.owners.items i.nodes.items c.self.invariant i.lacks_memory a.self.now c.self.view_is a.owner a.turn r.owner)
    (teller_is i.shape i.flows.items i.owners.items i.nodes.items c.self.invariant i.lacks_memory a.self.now c.self.view_is a.owner a.turn r.owner)
    c.index_mut.result.now (rw (← c.from.ensures) c.index_mut.ensures.value) a.message.now
    (message_is i.shape i.flows.items i.owners.items i.nodes.items c.self.invariant i.lacks_memory a.self.now c.self.view_is a.owner a.turn r.owner a.message.now r.told)
    (message_fits i.shape i.flows.items i.owners.items i.nodes.items c.self.invariant i.lacks_memory a.self.now c.self.view_is a.owner a.turn r.owner a.message.now r.told)

pub take_table-requires-clause-room : goal.take_table-requires-clause-room
take_table-requires-clause-room c =
    let i = c.self.inside in
    let a = c.args in
    let r = c.requires in
    table_has_room i.shape i.flows.items i.owners.items i.nodes.items c.self.invariant i.lacks_memory a.self.now c.self.view_is a.owner a.node a.turn r.owner r.node r.sent
    (teller i.shape i.flows.items i.owners.items i.nodes.items c.self.invariant i.lacks_memory a.self.now c.self.view_is a.owner a.turn r.owner)
    (teller_is i.shape i.flows.items i.owners.items i.nodes.items c.self.invariant i.lacks_memory a.self.now c.self.view_is a.owner a.turn r.owner)
    c.index_mut.result.now (rw (← c.from.ensures) c.index_mut.ensures.value) a.message.now
    (message_is i.shape i.flows.items i.owners.items i.nodes.items c.self.invariant i.lacks_memory a.self.now c.self.view_is a.owner a.turn r.owner a.message.now r.told)

pub invariant_of-self : goal.invariant_of-self
invariant_of-self c =
    let i = c.self.inside in
    let a = c.args in
    let r = c.requires in
    rw c.from.ensures
    (table_carried i.shape i.flows.items i.owners.items i.nodes.items c.self.invariant i.lacks_memory a.self.now c.self.view_is a.owner a.node a.turn r.owner r.node r.sent
    (teller i.shape i.flows.items i.owners.items i.nodes.items c.self.invariant i.lacks_memory a.self.now c.self.view_is a.owner a.turn r.owner)
    (teller_is i.shape i.flows.items i.owners.items i.nodes.items c.self.invariant i.lacks_memory a.self.now c.self.view_is a.owner a.turn r.owner)
    c.index_mut.result.now (rw (← c.from.ensures) c.index_mut.ensures.value) a.message.now
    (message_is i.shape i.flows.items i.owners.items i.nodes.items c.self.invariant i.lacks_memory a.self.now c.self.view_is a.owner a.turn r.owner a.message.now r.told)
    c.take_table.result c.take_table.new.self c.take_table.ensures.reply c.take_table.ensures.taken).stands

pub returns-clause-reply : goal.returns-clause-reply
returns-clause-reply c =
    let i = c.self.inside in
    let a = c.args in
    let r = c.requires in
    (table_carried i.shape i.flows.items i.owners.items i.nodes.items c.self.invariant i.lacks_memory a.self.now c.self.view_is a.owner a.node a.turn r.owner r.node r.sent
    (teller i.shape i.flows.items i.owners.items i.nodes.items c.self.invariant i.lacks_memory a.self.now c.self.view_is a.owner a.turn r.owner)
    (teller_is i.shape i.flows.items i.owners.items i.nodes.items c.self.invariant i.lacks_memory a.self.now c.self.view_is a.owner a.turn r.owner)
    c.index_mut.result.now (rw (← c.from.ensures) c.index_mut.ensures.value) a.message.now
    (message_is i.shape i.flows.items i.owners.items i.nodes.items c.self.invariant i.lacks_memory a.self.now c.self.view_is a.owner a.turn r.owner a.message.now r.told)
    c.take_table.result c.take_table.new.self c.take_table.ensures.reply c.take_table.ensures.taken).answers

pub returns-clause-taken : goal.returns-clause-taken
returns-clause-taken c =
    let i = c.self.inside in
    let a = c.args in
    let r = c.requires in
    rw c.from.ensures
    (table_carried i.shape i.flows.items i.owners.items i.nodes.items c.self.invariant i.lacks_memory a.self.now c.self.view_is a.owner a.node a.turn r.owner r.node r.sent
    (teller i.shape i.flows.items i.owners.items i.nodes.items c.self.invariant i.lacks_memory a.self.now c.self.view_is a.owner a.turn r.owner)
    (teller_is i.shape i.flows.items i.owners.items i.nodes.items c.self.invariant i.lacks_memory a.self.now c.self.view_is a.owner a.turn r.owner)
    c.index_mut.result.now (rw (← c.from.ensures) c.index_mut.ensures.value) a.message.now
    (message_is i.shape i.flows.items i.owners.items i.nodes.items c.self.invariant i.lacks_memory a.self.now c.self.view_is a.owner a.turn r.owner a.message.now r.told)
    c.take_table.result c.take_table.new.self c.take_table.ensures.reply c.take_table.ensures.taken).goes_on
