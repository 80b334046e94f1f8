use Rattle.std.proofs.Common.{◌≡◌, ◌∙◌, [], ◌∷◌, ◌++◌, length, rules, refl, ap, sym, subst, arith, append_assoc}
use Rattle.std.specs.Vec.Iter.{into_iter_items}
use Rattle.std.proofs.lemmas.List.{length-map, map-append}
use Rattle.turn_relay.specs.OwnerState.{OwnerState}
use Rattle.cluster_storm.specs.Opening.{IsSenderAt, IsUnlinked}
use Rattle.cluster_storm.proofs.Numbered.{next_at, one_more}
use Rattle.cluster_storm.proofs.making.owners_of.Goals as goal

pub new-requires-clause-sized : goal.new-requires-clause-sized
new-requires-clause-sized c =
    let at = c.senders.invariant in
    (next_at (IsSenderAt c.args.shape) c.senders.yielded _ c.args.senders.items c.in-Some.sender _ at.whole c.in-Some.ensures.steps.0 c.requires.senders).sized

pub new-requires-clause-numbered : goal.new-requires-clause-numbered
new-requires-clause-numbered c =
    let at = c.senders.invariant in
    let numbered = (next_at (IsSenderAt c.args.shape) c.senders.yielded _ c.args.senders.items c.in-Some.sender _ at.whole c.in-Some.ensures.steps.0 c.requires.senders).numbered in
    let count : c.len-number.result ≡ length c.senders.owners.items = search rules in
    numbered ∙ ap length (sym at.of) ∙ length-map c.senders.owners.items (λ (o : OwnerState). o.sender) ∙ sym count

pub senders-preserved : goal.senders-preserved
senders-preserved c =
    let at = c.senders in
    let sender = c.in-Some.sender in
    let steps : into_iter_items at.sender-iterator ≡ sender ∷ into_iter_items c.next.new.self = c.in-Some.ensures.steps.0 in
    let pushed : c.push.new.self.items ≡ at.owners.items ++ c.new.result ∷ [] = search rules in
    let count : c.len-number.result ≡ length at.owners.items = search rules in
    let of : c.new.result.sender ≡ sender = ap (λ (o : OwnerState). o.sender) c.new.ensures in
    rw pushed (record {
      whole = append_assoc at.yielded (sender ∷ []) _ ∙ rw (← steps) at.invariant.whole;
      left = let was = at.invariant.left in let gone = c.in-Some.ensures.steps.1 in let short = ap length steps in omega arith;
      of = map-append (λ (o : OwnerState). o.sender) at.owners.items (c.new.result ∷ []) ∙ (λ i. at.invariant.of i ++ of i ∷ []);
      unlinked = one_more (IsUnlinked c.args.shape) at.owners.items c.new.result c.len-number.result count at.invariant.unlinked
          (subst (IsUnlinked c.args.shape c.len-number.result) (sym c.new.ensures) (record { sized = refl; numbered = refl; unlinked = refl; quiet = refl }));
    })
