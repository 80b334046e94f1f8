use Rattle.std.proofs.Common.{◌∙◌, ap, subst, length}
use Rattle.partial_fib.specs.Ends.{There, WriterState}
use Rattle.partial_fib.specs.History.{shared_fib}
use Rattle.partial_fib.specs.Rule.{opening_of}
use Rattle.partial_fib.proofs.TurnSteps.{taken_is_length}
use Rattle.partial_fib.proofs.sharing.writer.FibWriter.shown.Goals as goal

pub returns-clause-size : goal.returns-clause-size
returns-clause-size c =
    let facts = subst (There _) c.in-Some.is c.self.invariant.0 in
    ap (λ shown. shown.fib.size) c.published.ensures ∙ facts.0.size ∙ ap (λ origin. (shared_fib origin.log).size) facts.1
    ∙ ap (λ (w : WriterState). w.opening.size) c.self.view_is

pub returns-clause-owner : goal.returns-clause-owner
returns-clause-owner c =
    let facts = subst (There _) c.in-Some.is c.self.invariant.0 in
    ap (λ shown. shown.fib.owner) c.published.ensures ∙ facts.0.owner ∙ ap (λ origin. (shared_fib origin.log).owner) facts.1
    ∙ ap (λ (w : WriterState). w.opening.owner) c.self.view_is

pub returns-clause-taken : goal.returns-clause-taken
returns-clause-taken c =
    let facts = subst (There _) c.in-Some.is c.self.invariant.0 in
    let x = c.in-Some.pen.desk.shown.value in
    ap (λ shown. shown.fib.taken) c.published.ensures ∙ ap (λ fib. fib.taken) facts.0.turned ∙ taken_is_length (opening_of x) x.past.log facts.0.unturned
    ∙ ap (λ past. length past.log) facts.2 ∙ ap (λ (w : WriterState). length w.turns) c.self.view_is
