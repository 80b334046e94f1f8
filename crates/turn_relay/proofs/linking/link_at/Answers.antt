use Rattle.std.proofs.Common.{◌≡◌, ◌∙◌, ℕ, ap, sym, subst}
use Rattle.std.specs.Prelude.{OnOk, slice_set}
use Rattle.turn_relay.specs.Linking.{LinksNode}
use Rattle.turn_relay.specs.OwnerState.{OwnerState}
use Rattle.turn_relay.specs.PartState.{ApplierState}
use Rattle.turn_relay.proofs.Linked.{node_links}
use Rattle.turn_relay.proofs.Resting.{read_is}
use Rattle.turn_relay.proofs.linking.link_at.Goals as goal

pub returns : goal.returns
returns c =
    let applier = c.args.applier.now in
    let owner = c.args.owner.now in
    let part = c.requires.part in
    let number : c.from-number.result ≡ owner.number = c.from-number.ensures ∙ ap (λ (o : OwnerState). o.number) c.owner.view_is in
    let part_is : c.index_mut.result.now ≡ part.element =
    read_is applier.parts c.applier.inside.parts.items owner.number c.from-number.result part.element c.index_mut.result.now part.there
    (ap (λ (a : ApplierState). a.parts) c.applier.view_is) number c.index_mut.ensures.value in
    subst (λ (p : ApplierState × ℕ). OnOk c.link_part.result
    (LinksNode owner c.link_part.new.owner applier (record (p.0) { parts = slice_set (p.0).parts p.1 c.link_part.new.part })))
    (λ i. (sym c.applier.view_is i, sym number i))
    (node_links owner c.link_part.new.owner applier part.element c.index_mut.result.now c.link_part.new.part part.there part_is c.link_part.result c.link_part.ensures.linked)
