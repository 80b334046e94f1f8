use Rattle.std.proofs.Common.{◌≡◌, [], ◌∷◌, ◌++◌, ℕ, sym, subst, arith, rules, length-append}
use Rattle.turn_log.specs.Sender.{IsSenderOf, SenderState, changes_in}
use Rattle.flow_types.proofs.Elements.{each_pushed}
use Rattle.cluster_open.proofs.opening.owners.Goals as goal

pub numbers-preserved : goal.numbers-preserved
numbers-preserved c =
    let owners = c.numbers.owners.items in
    let new = c.in_ok-open.field-0 in
    let pushed : c.push.new.self.items ≡ owners ++ new ∷ [] = search rules in
    let count = c.numbers.invariant.count in
    rw pushed (record {
      count = omega (arith, length-append owners (new ∷ []));
      each = λ i d low.
          each_pushed (λ (i : ℕ) (sender : SenderState). (changes_in sender ≡ []) × IsSenderOf c.args.shape i c.args.flows.now sender) owners new c.numbers.invariant.each
          (subst (λ (i : ℕ). (changes_in new ≡ []) × IsSenderOf c.args.shape i c.args.flows.now new) (sym count)
          (c.in_ok-open.ensures.changes, c.in_ok-open.ensures.stands)) i d low;
    })
