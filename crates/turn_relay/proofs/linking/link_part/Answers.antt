use Rattle.std.proofs.Common.{◌≡◌, ◌∙◌, ◌∷◌, [], ◌++◌, List, Some, ap, sym, subst, refl, IsOk, arith}
use Rattle.std.proofs.lemmas.Bool.{cond-true}
use Rattle.node_link.specs.Ends.{End}
use Rattle.turn_relay.specs.Linking.{LinksOne}
use Rattle.turn_relay.specs.OwnerState.{OwnerState}
use Rattle.turn_relay.specs.PartState.{PartState}
use Rattle.turn_relay.proofs.linking.link_part.Goals as goal

pub returns-clause-linked : goal.returns-clause-linked
returns-clause-linked c =
    let i = c.owner.inside in
    let p = c.part.inside in
    let ends = c.in_ok-sends.ensures in
    let pushed : IsOk c.push.result = c.push.ensures.succeeds (omega (arith, c.in_ok-reserve.ensures.ok)) in
    let items : c.push.new.self.items ≡ i.ends.items ++ c.in_ok-sends.sends ∷ [] =
    c.push.ensures.items ∙ cond-true _ _ _ pushed ∙ ap (λ (es : List End). es ++ c.in_ok-sends.sends ∷ []) c.reserve.ensures.items in
    let before : OwnerState = record { size = i.shape; number = i.number; sender = i.sender; ends = i.ends.items; replies = i.replies.items; failed = i.failed } in
    let after : OwnerState = record before { ends = c.push.new.self.items } in
    let part : PartState = record { size = p.shape; owner = p.owner; table = p.table; fib = p.fib; end = p.end; state = p.state } in
    let linked : PartState = record part { end = Some c.in_ok-sends.takes } in
    subst (λ (o : OwnerState × PartState). LinksOne o.0 after o.1 linked) (λ j. (c.owner.view_is j, c.part.view_is j))
    (record {
      extended = record { end = c.in_ok-sends.sends; none = ends.sends.1; after_is = λ j. record before { ends = items j } };
      links = record { taker = c.in_ok-sends.takes; line = sym ends.one_link; none = ends.takes.1; after_is = refl };
    })
