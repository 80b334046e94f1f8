use Rattle.std.proofs.Common.{◌≡◌, ◌∙◌, ap, sym}
use Rattle.turn_relay.specs.OwnerState.{OwnerState}
use Rattle.turn_relay.specs.PartState.{ApplierState, PartState}
use Rattle.turn_relay.proofs.Resting.{not_stuck, read_is, rests}
use Rattle.turn_relay.proofs.finishing.is_clear.Goals as goal

pub unreachable-requires : goal.unreachable-requires
unreachable-requires c =
    let done = c.requires.done in
    let part_is : c.index.result.now ≡ done.element =
    read_is c.args.applier.now.parts c.applier.inside.parts.items c.args.owner.now.number c.from.result done.element c.index.result.now done.there
    (ap (λ (a : ApplierState). a.parts) c.applier.view_is) (c.from.ensures ∙ ap (λ (o : OwnerState). o.number) c.owner.view_is) c.index.ensures in
    not_stuck c.args.flows.now c.args.owner.now c.requires.stands c.requires.sent c.args.applier.now.node done.element done.holds
    (sym (ap (λ (p : PartState). p.state) (c.behind-applier.view_is ∙ part_is)) ∙ c.in-Stuck.is)

pub returns-in-Clear : goal.returns-in-Clear
returns-in-Clear c = λ _.
    let done = c.requires.done in
    let part_is : c.index.result.now ≡ done.element =
    read_is c.args.applier.now.parts c.applier.inside.parts.items c.args.owner.now.number c.from.result done.element c.index.result.now done.there
    (ap (λ (a : ApplierState). a.parts) c.applier.view_is) (c.from.ensures ∙ ap (λ (o : OwnerState). o.number) c.owner.view_is) c.index.ensures in
    record {
      element = done.element;
      there = done.there;
      holds = rests c.args.flows.now c.args.owner.now c.requires.stands c.requires.sent c.args.applier.now.node done.element done.holds
          (sym (ap (λ (p : PartState). p.state) (c.behind-applier.view_is ∙ part_is)) ∙ c.in-Clear.is);
    }
