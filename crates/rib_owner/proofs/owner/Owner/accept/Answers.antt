use Rattle.std.proofs.Common.{◌≡◌, ◌∙◌, Ok, sym, ap, subst}
use Rattle.flow_types.specs.Size.{Size}
use Rattle.rib_owner.specs.declared.turn.Turn.{Turn}
use Rattle.rib_owner.specs.Rib.{IsRibOf, Rib}
use Rattle.rib_owner.specs.Turn.{AnswersUpdate}
use Rattle.rib_owner.proofs.Accepting.{err_is}
use Rattle.rib_owner.proofs.owner.Owner.accept.Goals as goal

pub returns-in_err-decision-clause-answer : goal.returns-in_err-decision-clause-answer
returns-in_err-decision-clause-answer c flows is =
    rw (err_is c.from_residual.result c.in_err-decision.field-0.0 c.from_residual.ensures.1) (c.in_err-decision.ensures.answer flows is)

pub returns-clause-answer : goal.returns-clause-answer
returns-clause-answer c flows is =
    subst (λ (t : Turn). AnswersUpdate c.args.self.now.size flows c.args.self.now.journal.changes c.args.update (Ok t)) (sym c.in_ok-turn.ensures.turn)
    (c.in_ok-decision.ensures.answer flows is)

pub returns-clause-stands : goal.returns-clause-stands
returns-clause-stands c flows is =
    let size = ap (λ (r : Rib). r.size) c.in_ok-decision.ensures.same in
    subst (λ (s : Size). IsRibOf s flows c.commit.new.self) size
    (c.in_ok-turn.ensures.stands flows (subst (λ (r : Rib). IsRibOf r.size flows r) (sym c.in_ok-decision.ensures.same) is))
