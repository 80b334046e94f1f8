use Rattle.std.proofs.Common.{◌≡◌, ◌<◌, ◌≤◌, get_or, length, sym, arith}
use Rattle.std.proofs.lemmas.Bool.{ltb-false, ltb-true}
use Rattle.cluster_replay.proofs.Held.{as_many_sent, has_owner, nothing_accepted, run_unsent, unsent}
use Rattle.cluster_replay.proofs.cluster.Cluster.carry.Goals as goal

pub returns-in_default-clause-reply : goal.returns-in_default-clause-reply
returns-in_default-clause-reply c =
    let i = c.self.inside in
    let past : length i.owners.items ≤ c.args.owner = rw (← c.from.ensures, ← c.deref.ensures.value) (ltb-false _ _ (sym c.in_default.ensures.lookup.0)) in
    let none = nothing_accepted i.shape i.flows.items i.owners.items i.nodes.items c.self.invariant i.lacks_memory c.args.self.now c.self.view_is c.args.owner c.requires.owner past in
    unsent c.args.self.now c.args.part c.args.node c.args.owner c.args.turn (omega (arith, none, c.requires.first))

pub returns-then-turn-turns-clause-reply : goal.returns-then-turn-turns-clause-reply
returns-then-turn-turns-clause-reply c =
    let i = c.self.inside in
    let there : c.args.owner < length i.owners.items = rw (← c.from.ensures, ← c.deref.ensures.value) (ltb-true _ _ (sym c.in-Some.ensures.lookup.0)) in
    let sender : c.in-Some.sender.now ≡ get_or i.owners.items c.args.owner c.in-Some.sender.now = rw (← c.from.ensures, ← c.deref.ensures.value) c.in-Some.ensures.lookup.1 in
    let many = as_many_sent i.shape i.flows.items i.owners.items i.nodes.items c.self.invariant i.lacks_memory c.args.self.now c.self.view_is c.args.owner c.requires.owner c.in-Some.sender.now there sender in
    unsent c.args.self.now c.args.part c.args.node c.args.owner c.args.turn (omega (arith, many, c.turns.ensures, c.if-turn-turns.true))

pub returns-in_default-clause-taken : goal.returns-in_default-clause-taken
returns-in_default-clause-taken c =
    let i = c.self.inside in
    let past : length i.owners.items ≤ c.args.owner = rw (← c.from.ensures, ← c.deref.ensures.value) (ltb-false _ _ (sym c.in_default.ensures.lookup.0)) in
    let none = nothing_accepted i.shape i.flows.items i.owners.items i.nodes.items c.self.invariant i.lacks_memory c.args.self.now c.self.view_is c.args.owner c.requires.owner past in
    run_unsent c.args.self.now c.args.part c.args.node c.args.owner c.args.turn (omega (arith, none, c.requires.first))

pub returns-then-turn-turns-clause-taken : goal.returns-then-turn-turns-clause-taken
returns-then-turn-turns-clause-taken c =
    let i = c.self.inside in
    let there : c.args.owner < length i.owners.items = rw (← c.from.ensures, ← c.deref.ensures.value) (ltb-true _ _ (sym c.in-Some.ensures.lookup.0)) in
    let sender : c.in-Some.sender.now ≡ get_or i.owners.items c.args.owner c.in-Some.sender.now = rw (← c.from.ensures, ← c.deref.ensures.value) c.in-Some.ensures.lookup.1 in
    let many = as_many_sent i.shape i.flows.items i.owners.items i.nodes.items c.self.invariant i.lacks_memory c.args.self.now c.self.view_is c.args.owner c.requires.owner c.in-Some.sender.now there sender in
    run_unsent c.args.self.now c.args.part c.args.node c.args.owner c.args.turn (omega (arith, many, c.turns.ensures, c.if-turn-turns.true))

pub deliver-requires-clause-owner : goal.deliver-requires-clause-owner
deliver-requires-clause-owner c =
    let i = c.self.inside in
    let there : c.args.owner < length i.owners.items = rw (← c.from.ensures, ← c.deref.ensures.value) (ltb-true _ _ (sym c.in-Some.ensures.lookup.0)) in
    has_owner i.shape i.flows.items i.owners.items i.nodes.items c.self.invariant i.lacks_memory c.args.self.now c.self.view_is c.args.owner c.requires.owner there

pub deliver-requires-clause-sent : goal.deliver-requires-clause-sent
deliver-requires-clause-sent c =
    let i = c.self.inside in
    let there : c.args.owner < length i.owners.items = rw (← c.from.ensures, ← c.deref.ensures.value) (ltb-true _ _ (sym c.in-Some.ensures.lookup.0)) in
    let sender : c.in-Some.sender.now ≡ get_or i.owners.items c.args.owner c.in-Some.sender.now = rw (← c.from.ensures, ← c.deref.ensures.value) c.in-Some.ensures.lookup.1 in
    let many = as_many_sent i.shape i.flows.items i.owners.items i.nodes.items c.self.invariant i.lacks_memory c.args.self.now c.self.view_is c.args.owner c.requires.owner c.in-Some.sender.now there sender in
    omega (arith, many, c.turns.ensures, c.if-turn-turns.false)
