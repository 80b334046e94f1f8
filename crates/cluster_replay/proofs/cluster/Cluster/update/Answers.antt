use Rattle.std.proofs.Common.{◌∙◌, ◌%◌, ap, sym}
use Rattle.hash_family.specs.Hash.{place}
use Rattle.hash_family.specs.declared.bucket.Place.{Place}
use Rattle.cluster_replay.proofs.HeldOwners.{has_updated, node_known, owns_seen, sender_owns, stands_seen}
use Rattle.cluster_replay.proofs.cluster.Cluster.update.Goals as goal

pub accept-answered-requires-clause-node : goal.accept-answered-requires-clause-node
accept-answered-requires-clause-node c =
    let i = c.self.inside in
    let owner_said = c.owner-owner.ensures.value ∙ ap (λ (p : Place). p.block % i.shape.nodes) (c.place.ensures.value ∙ ap (place i.shape.blocks) c.key.ensures) in
    rw (sender_owns i.shape i.flows.items i.owners.items i.nodes.items c.self.invariant i.lacks_memory c.args.self.now c.self.view_is c.args.update c.owner-owner.result owner_said c.index_mut.result.now (rw (← c.from.ensures) c.index_mut.ensures.value)).sized (node_known i.shape i.flows.items i.owners.items i.nodes.items c.self.invariant i.lacks_memory c.args.self.now c.self.view_is c.args.update c.requires)

pub accept-answered-requires-clause-stands : goal.accept-answered-requires-clause-stands
accept-answered-requires-clause-stands c =
    let i = c.self.inside in
    let owner_said = c.owner-owner.ensures.value ∙ ap (λ (p : Place). p.block % i.shape.nodes) (c.place.ensures.value ∙ ap (place i.shape.blocks) c.key.ensures) in
    stands_seen i.shape i.flows.items i.owners.items i.nodes.items c.self.invariant i.lacks_memory c.args.self.now c.self.view_is c.args.update c.owner-owner.result owner_said c.index_mut.result.now (rw (← c.from.ensures) c.index_mut.ensures.value) c.as_slice.result.now c.as_slice.ensures.value

pub accept-answered-requires-clause-owns : goal.accept-answered-requires-clause-owns
accept-answered-requires-clause-owns c =
    let i = c.self.inside in
    let owner_said = c.owner-owner.ensures.value ∙ ap (λ (p : Place). p.block % i.shape.nodes) (c.place.ensures.value ∙ ap (place i.shape.blocks) c.key.ensures) in
    owns_seen i.shape i.flows.items i.owners.items i.nodes.items c.self.invariant i.lacks_memory c.args.self.now c.self.view_is c.args.update c.owner-owner.result owner_said c.index_mut.result.now (rw (← c.from.ensures) c.index_mut.ensures.value) (sym owner_said)

pub invariant_of-self : goal.invariant_of-self
invariant_of-self c =
    let i = c.self.inside in
    let owner_said = c.owner-owner.ensures.value ∙ ap (λ (p : Place). p.block % i.shape.nodes) (c.place.ensures.value ∙ ap (place i.shape.blocks) c.key.ensures) in
    rw c.from.ensures (has_updated i.shape i.flows.items i.owners.items i.nodes.items c.self.invariant i.lacks_memory c.args.self.now c.self.view_is c.args.update c.owner-owner.result owner_said c.index_mut.result.now (rw (← c.from.ensures) c.index_mut.ensures.value)
    c.as_slice.result.now c.as_slice.ensures.value c.accept-answered.new.self c.accept-answered.ensures.stands c.accept-answered.result c.accept-answered.ensures.answer c.accept-answered.ensures.refused
    (node_known i.shape i.flows.items i.owners.items i.nodes.items c.self.invariant i.lacks_memory c.args.self.now c.self.view_is c.args.update c.requires) c.told.result c.told.ensures).stands

pub returns-clause-reply : goal.returns-clause-reply
returns-clause-reply c =
    let i = c.self.inside in
    let owner_said = c.owner-owner.ensures.value ∙ ap (λ (p : Place). p.block % i.shape.nodes) (c.place.ensures.value ∙ ap (place i.shape.blocks) c.key.ensures) in
    (has_updated i.shape i.flows.items i.owners.items i.nodes.items c.self.invariant i.lacks_memory c.args.self.now c.self.view_is c.args.update c.owner-owner.result owner_said c.index_mut.result.now (rw (← c.from.ensures) c.index_mut.ensures.value)
    c.as_slice.result.now c.as_slice.ensures.value c.accept-answered.new.self c.accept-answered.ensures.stands c.accept-answered.result c.accept-answered.ensures.answer c.accept-answered.ensures.refused
    (node_known i.shape i.flows.items i.owners.items i.nodes.items c.self.invariant i.lacks_memory c.args.self.now c.self.view_is c.args.update c.requires) c.told.result c.told.ensures).replies

pub returns-clause-journals : goal.returns-clause-journals
returns-clause-journals c =
    let i = c.self.inside in
    let owner_said = c.owner-owner.ensures.value ∙ ap (λ (p : Place). p.block % i.shape.nodes) (c.place.ensures.value ∙ ap (place i.shape.blocks) c.key.ensures) in
    rw c.from.ensures (has_updated i.shape i.flows.items i.owners.items i.nodes.items c.self.invariant i.lacks_memory c.args.self.now c.self.view_is c.args.update c.owner-owner.result owner_said c.index_mut.result.now (rw (← c.from.ensures) c.index_mut.ensures.value)
    c.as_slice.result.now c.as_slice.ensures.value c.accept-answered.new.self c.accept-answered.ensures.stands c.accept-answered.result c.accept-answered.ensures.answer c.accept-answered.ensures.refused
    (node_known i.shape i.flows.items i.owners.items i.nodes.items c.self.invariant i.lacks_memory c.args.self.now c.self.view_is c.args.update c.requires) c.told.result c.told.ensures).goes_on

pub returns-clause-refused : goal.returns-clause-refused
returns-clause-refused c =
    let i = c.self.inside in
    let owner_said = c.owner-owner.ensures.value ∙ ap (λ (p : Place). p.block % i.shape.nodes) (c.place.ensures.value ∙ ap (place i.shape.blocks) c.key.ensures) in
    rw c.from.ensures (has_updated i.shape i.flows.items i.owners.items i.nodes.items c.self.invariant i.lacks_memory c.args.self.now c.self.view_is c.args.update c.owner-owner.result owner_said c.index_mut.result.now (rw (← c.from.ensures) c.index_mut.ensures.value)
    c.as_slice.result.now c.as_slice.ensures.value c.accept-answered.new.self c.accept-answered.ensures.stands c.accept-answered.result c.accept-answered.ensures.answer c.accept-answered.ensures.refused
    (node_known i.shape i.flows.items i.owners.items i.nodes.items c.self.invariant i.lacks_memory c.args.self.now c.self.view_is c.args.update c.requires) c.told.result c.told.ensures).refused
