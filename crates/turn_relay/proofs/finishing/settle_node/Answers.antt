use Rattle.std.proofs.Common.{◌≡◌, ◌∙◌, ℕ, List, ap, sym, subst}
use Rattle.std.specs.Prelude.{slice_set}
use Rattle.turn_relay.specs.Each.{ChangesAt, HasAt}
use Rattle.turn_relay.specs.Finish.{IsSettled}
use Rattle.turn_relay.specs.Follow.{GoesOn}
use Rattle.turn_relay.specs.OwnerState.{OwnerState}
use Rattle.turn_relay.specs.PartState.{ApplierState, PartState}
use Rattle.turn_relay.proofs.Resting.{changes_here, read_is, settled_here}
use Rattle.turn_relay.proofs.finishing.settle_node.Given as given
use Rattle.turn_relay.proofs.finishing.settle_node.Goals as goal

module _ (g : given.Over) (c : goal.After-applier-1 g) where
  parts_same : c.applier.inside.parts.items ≡ c.args.applier.now.parts
  parts_same = ap (λ (a : ApplierState). a.parts) c.applier.view_is

  number_same : c.from-number.result ≡ c.args.owner.now.number
  number_same = c.from-number.ensures ∙ ap (λ (o : OwnerState). o.number) c.owner.view_is

  part_is : c.index_mut-2.result.now ≡ c.requires.linked.element
  part_is = read_is c.args.applier.now.parts c.applier.inside.parts.items c.args.owner.now.number c.from-number.result c.requires.linked.element c.index_mut-2.result.now
      c.requires.linked.there parts_same number_same c.index_mut-2.ensures.value

  sender_is : c.index_mut.result.now ≡ c.requires.linked.holds.end
  sender_is = read_is c.args.owner.now.ends c.owner.inside.ends.items c.args.applier.now.node c.from.result c.requires.linked.holds.end c.index_mut.result.now
      c.requires.linked.holds.there (ap (λ (o : OwnerState). o.ends) c.owner.view_is) (c.from.ensures ∙ ap (λ (a : ApplierState). a.node) c.applier.view_is) c.index_mut.ensures.value

pub returns-clause-finishes : goal.returns-clause-finishes
returns-clause-finishes g c = (
  ap (λ (a : ApplierState). a.node) c.applier.view_is,
  subst (λ (p : List PartState × ℕ). ChangesAt c.args.owner.now.number GoesOn c.args.applier.now.parts (slice_set p.0 p.1 c.settle_link.new.part))
      (λ i. (sym (parts_same g c) i, sym (number_same g c) i))
      (changes_here c.args.owner.now c.args.applier.now c.requires.linked c.index_mut.result.now (sender_is g c) c.index_mut-2.result.now c.settle_link.new.part (part_is g c)
      c.settle_link.ensures.on c.settle_link.ensures.all),
)

pub returns-clause-settled : goal.returns-clause-settled
returns-clause-settled g c =
    rw (ap (λ (a : ApplierState). a.node) c.applier.view_is)
    (subst (λ (p : List PartState × ℕ). HasAt c.args.owner.now.number (IsSettled c.args.applier.now.node c.args.owner.now) (slice_set p.0 p.1 c.settle_link.new.part))
    (λ i. (sym (parts_same g c) i, sym (number_same g c) i))
    (settled_here c.args.owner.now c.args.applier.now c.requires.linked c.index_mut.result.now (sender_is g c) c.index_mut-2.result.now c.settle_link.new.part (part_is g c)
    c.settle_link.ensures.on c.settle_link.ensures.all))
