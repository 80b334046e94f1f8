use Rattle.std.proofs.Common.{arith}
use Rattle.cluster_replay.proofs.Held.{fib_answers, fib_fits, fib_own, fib_there, node_index, owner_index, stands, there, turn_known}
use Rattle.cluster_replay.proofs.cluster.Cluster.carry_fib.Goals as goal

pub index-requires : goal.index-requires
index-requires c =
    let i = c.self.inside in
    let a = c.args in
    let r = c.requires in
    let low = owner_index i.shape i.flows.items i.owners.items i.nodes.items c.self.invariant i.lacks_memory a.self.now c.self.view_is a.owner a.node a.turn r.owner r.node r.sent in
    omega (arith, low, c.from.ensures)

pub fib_message-message-requires-clause-last : goal.fib_message-message-requires-clause-last
fib_message-message-requires-clause-last c =
    let i = c.self.inside in
    let a = c.args in
    let r = c.requires in
    turn_known i.shape i.flows.items i.owners.items i.nodes.items c.self.invariant i.lacks_memory a.self.now c.self.view_is a.owner a.node a.turn r.owner r.node r.sent c.index.result.now (rw (← c.from.ensures) c.index.ensures)

pub fib_message-message-requires-clause-node : goal.fib_message-message-requires-clause-node
fib_message-message-requires-clause-node c =
    let i = c.self.inside in
    let a = c.args in
    let r = c.requires in
    let sender = stands i.shape i.flows.items i.owners.items i.nodes.items c.self.invariant i.lacks_memory a.self.now c.self.view_is a.owner a.node a.turn r.owner r.node r.sent c.index.result.now (rw (← c.from.ensures) c.index.ensures) in
    let low = there i.shape i.flows.items i.owners.items i.nodes.items c.self.invariant i.lacks_memory a.self.now c.self.view_is a.owner a.node a.turn r.owner r.node r.sent in
    rw sender.sized low

pub index_mut-requires : goal.index_mut-requires
index_mut-requires c =
    let i = c.self.inside in
    let a = c.args in
    let r = c.requires in
    let low = node_index i.shape i.flows.items i.owners.items i.nodes.items c.self.invariant i.lacks_memory a.self.now c.self.view_is a.owner a.node a.turn r.owner r.node r.sent in
    omega (arith, low, c.from-2.ensures)

pub take_fib-requires-clause-there : goal.take_fib-requires-clause-there
take_fib-requires-clause-there c =
    let i = c.self.inside in
    let a = c.args in
    let r = c.requires in
    fib_there i.shape i.flows.items i.owners.items i.nodes.items c.self.invariant i.lacks_memory a.self.now c.self.view_is a.owner a.node a.turn r.owner r.node r.sent
    c.index.result.now (rw (← c.from.ensures) c.index.ensures) c.index_mut.result.now (rw (← c.from-2.ensures) c.index_mut.ensures.value)
    c.fib_message-message.result (c.fib_message-message.ensures.of_turn i.shape a.owner i.flows.items (stands i.shape i.flows.items i.owners.items i.nodes.items c.self.invariant i.lacks_memory a.self.now c.self.view_is a.owner a.node a.turn r.owner r.node r.sent c.index.result.now (rw (← c.from.ensures) c.index.ensures)))

pub take_fib-requires-clause-own : goal.take_fib-requires-clause-own
take_fib-requires-clause-own c =
    let i = c.self.inside in
    let a = c.args in
    let r = c.requires in
    fib_own i.shape i.flows.items i.owners.items i.nodes.items c.self.invariant i.lacks_memory a.self.now c.self.view_is a.owner a.node a.turn r.owner r.node r.sent
    c.index.result.now (rw (← c.from.ensures) c.index.ensures) c.index_mut.result.now (rw (← c.from-2.ensures) c.index_mut.ensures.value)
    c.fib_message-message.result (c.fib_message-message.ensures.of_turn i.shape a.owner i.flows.items (stands i.shape i.flows.items i.owners.items i.nodes.items c.self.invariant i.lacks_memory a.self.now c.self.view_is a.owner a.node a.turn r.owner r.node r.sent c.index.result.now (rw (← c.from.ensures) c.index.ensures)))

pub take_fib-requires-clause-fits : goal.take_fib-requires-clause-fits
take_fib-requires-clause-fits c =
    let i = c.self.inside in
    let a = c.args in
    let r = c.requires in
    fib_fits i.shape i.flows.items i.owners.items i.nodes.items c.self.invariant i.lacks_memory a.self.now c.self.view_is a.owner a.node a.turn r.owner r.node r.sent
    c.index.result.now (rw (← c.from.ensures) c.index.ensures) c.index_mut.result.now (rw (← c.from-2.ensures) c.index_mut.ensures.value)
    c.fib_message-message.result (c.fib_message-message.ensures.of_turn i.shape a.owner i.flows.items (stands i.shape i.flows.items i.owners.items i.nodes.items c.self.invariant i.lacks_memory a.self.now c.self.view_is a.owner a.node a.turn r.owner r.node r.sent c.index.result.now (rw (← c.from.ensures) c.index.ensures))) c.fib_message-message.ensures.fits

pub invariant_of-self : goal.invariant_of-self
invariant_of-self c =
    let i = c.self.inside in
    let a = c.args in
    let r = c.requires in
    rw c.from-2.ensures
    (fib_answers i.shape i.flows.items i.owners.items i.nodes.items c.self.invariant i.lacks_memory a.self.now c.self.view_is a.owner a.node a.turn r.owner r.node r.sent
    c.index.result.now (rw (← c.from.ensures) c.index.ensures) c.index_mut.result.now (rw (← c.from-2.ensures) c.index_mut.ensures.value)
    c.fib_message-message.result (c.fib_message-message.ensures.of_turn i.shape a.owner i.flows.items (stands i.shape i.flows.items i.owners.items i.nodes.items c.self.invariant i.lacks_memory a.self.now c.self.view_is a.owner a.node a.turn r.owner r.node r.sent c.index.result.now (rw (← c.from.ensures) c.index.ensures)))
    c.take_fib.result c.take_fib.new.self c.take_fib.ensures.reply c.take_fib.ensures.taken c.take_fib.ensures.refused).stands

pub returns-clause-reply : goal.returns-clause-reply
returns-clause-reply c =
    let i = c.self.inside in
    let a = c.args in
    let r = c.requires in
    (fib_answers i.shape i.flows.items i.owners.items i.nodes.items c.self.invariant i.lacks_memory a.self.now c.self.view_is a.owner a.node a.turn r.owner r.node r.sent
    c.index.result.now (rw (← c.from.ensures) c.index.ensures) c.index_mut.result.now (rw (← c.from-2.ensures) c.index_mut.ensures.value)
    c.fib_message-message.result (c.fib_message-message.ensures.of_turn i.shape a.owner i.flows.items (stands i.shape i.flows.items i.owners.items i.nodes.items c.self.invariant i.lacks_memory a.self.now c.self.view_is a.owner a.node a.turn r.owner r.node r.sent c.index.result.now (rw (← c.from.ensures) c.index.ensures)))
    c.take_fib.result c.take_fib.new.self c.take_fib.ensures.reply c.take_fib.ensures.taken c.take_fib.ensures.refused).answers

pub returns-clause-taken : goal.returns-clause-taken
returns-clause-taken c =
    let i = c.self.inside in
    let a = c.args in
    let r = c.requires in
    rw c.from-2.ensures
    (fib_answers i.shape i.flows.items i.owners.items i.nodes.items c.self.invariant i.lacks_memory a.self.now c.self.view_is a.owner a.node a.turn r.owner r.node r.sent
    c.index.result.now (rw (← c.from.ensures) c.index.ensures) c.index_mut.result.now (rw (← c.from-2.ensures) c.index_mut.ensures.value)
    c.fib_message-message.result (c.fib_message-message.ensures.of_turn i.shape a.owner i.flows.items (stands i.shape i.flows.items i.owners.items i.nodes.items c.self.invariant i.lacks_memory a.self.now c.self.view_is a.owner a.node a.turn r.owner r.node r.sent c.index.result.now (rw (← c.from.ensures) c.index.ensures)))
    c.take_fib.result c.take_fib.new.self c.take_fib.ensures.reply c.take_fib.ensures.taken c.take_fib.ensures.refused).goes_on

pub returns-clause-refused : goal.returns-clause-refused
returns-clause-refused c =
    let i = c.self.inside in
    let a = c.args in
    let r = c.requires in
    rw c.from-2.ensures
    (fib_answers i.shape i.flows.items i.owners.items i.nodes.items c.self.invariant i.lacks_memory a.self.now c.self.view_is a.owner a.node a.turn r.owner r.node r.sent
    c.index.result.now (rw (← c.from.ensures) c.index.ensures) c.index_mut.result.now (rw (← c.from-2.ensures) c.index_mut.ensures.value)
    c.fib_message-message.result (c.fib_message-message.ensures.of_turn i.shape a.owner i.flows.items (stands i.shape i.flows.items i.owners.items i.nodes.items c.self.invariant i.lacks_memory a.self.now c.self.view_is a.owner a.node a.turn r.owner r.node r.sent c.index.result.now (rw (← c.from.ensures) c.index.ensures)))
    c.take_fib.result c.take_fib.new.self c.take_fib.ensures.reply c.take_fib.ensures.taken c.take_fib.ensures.refused).refused
