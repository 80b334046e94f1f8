use Rattle.std.proofs.Common.{◌∙◌, ap, subst, length}
use Rattle.partial_fib.specs.declared.sharing.shown.Shown.{Shown}
use Rattle.partial_fib.specs.Ends.{There, WriterState}
use Rattle.partial_fib.specs.Rule.{opening_of}
use Rattle.partial_fib.proofs.TurnSteps.{taken_is_length}
use Rattle.partial_fib.proofs.sharing.writer.FibWriter.into_fib.Goals as goal

pub returns-clause-taken : goal.returns-clause-taken
returns-clause-taken g c =
    let facts = subst (There _) c.in-Some.is c.self.invariant.0 in
    let x = c.in-Some.pen.desk.shown.value in
    ap (λ (shown : Shown). shown.fib.taken) (c.into_inner-fib.ensures ∙ c.take.ensures) ∙ ap (λ fib. fib.taken) facts.0.turned
    ∙ taken_is_length (opening_of x) x.past.log facts.0.unturned ∙ ap (λ past. length past.log) facts.2 ∙ ap (λ (w : WriterState). length w.turns) c.self.view_is
