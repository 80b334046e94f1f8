use Rattle.std.proofs.Common.{ℕ, ◌≡◌, ◌∙◌, ◌+◌, ◌<◌, ◌≤◌, refl, sym, ap, subst, length}
use Rattle.partial_fib.specs.Ends.{There, WriterState}
use Rattle.partial_fib.specs.History.{shared_fib}
use Rattle.partial_fib.specs.Rule.{opening_of}
use Rattle.partial_fib.proofs.TurnSteps.{taken_is_length}
use Rattle.partial_fib.proofs.sharing.writer.FibWriter.apply.Goals as goal

pub returns-in-Err-clause-foreign : goal.returns-in-Err-clause-foreign
returns-in-Err-clause-foreign g c owner =
    let unspent = sym (ap (λ (w : WriterState). w.spent) c.self.view_is) ∙ c.if-self.false in
    let own = c.shown.ensures.owner in
    let says = c.in-Err.ensures.foreign owner in (
      λ is. (unspent, (λ same. (says.0 is).0 (same ∙ sym own), (says.0 is).1)),
      λ so. says.1 (λ same. so.1.0 (same ∙ own), so.1.1),
    )

pub returns-in-Err-clause-repeat : goal.returns-in-Err-clause-repeat
returns-in-Err-clause-repeat g c have =
    let unspent = sym (ap (λ (w : WriterState). w.spent) c.self.view_is) ∙ c.if-self.false in
    let own = c.shown.ensures.owner in
    let taken = c.shown.ensures.taken in
    let turn = c.args.message.now.turn in
    let says = c.in-Err.ensures.repeat have in (
      λ is. let so = says.0 is in (unspent, (so.0 ∙ own, subst (λ (n : ℕ). turn ≤ n) taken so.1, so.2 ∙ taken)),
      λ so. says.1 (so.1.0 ∙ sym own, subst (λ (n : ℕ). turn ≤ n) (sym taken) so.1.1, so.1.2 ∙ sym taken),
    )

pub returns-in-Err-clause-early : goal.returns-in-Err-clause-early
returns-in-Err-clause-early g c have =
    let unspent = sym (ap (λ (w : WriterState). w.spent) c.self.view_is) ∙ c.if-self.false in
    let own = c.shown.ensures.owner in
    let taken = c.shown.ensures.taken in
    let turn = c.args.message.now.turn in
    let says = c.in-Err.ensures.early have in (
      λ is. let so = says.0 is in (unspent, (so.0 ∙ own, subst (λ (n : ℕ). n + 1 < turn) taken so.1, so.2 ∙ taken)),
      λ so. says.1 (so.1.0 ∙ sym own, subst (λ (n : ℕ). n + 1 < turn) (sym taken) so.1.1, so.1.2 ∙ sym taken),
    )

pub turned-pen-requires-clause-next : goal.turned-pen-requires-clause-next
turned-pen-requires-clause-next g c =
    let facts = subst (There _) (sym c.in-Some.ensures.value) c.self.invariant.0 in
    let x = c.in-Some.pen.desk.shown.value in
    let next = c.in_default.ensures.next.0 refl in
    let own : x.fib.owner ≡ c.args.self.now.opening.owner =
    facts.0.owner ∙ ap (λ origin. (shared_fib origin.log).owner) facts.1 ∙ ap (λ (w : WriterState). w.opening.owner) c.self.view_is in
    let taken : x.fib.taken ≡ length c.args.self.now.turns =
    ap (λ fib. fib.taken) facts.0.turned ∙ taken_is_length (opening_of x) x.past.log facts.0.unturned ∙ ap (λ past. length past.log) facts.2
    ∙ ap (λ (w : WriterState). length w.turns) c.self.view_is in
    record {
      of_owner = next.of_owner ∙ c.shown.ensures.owner ∙ sym own;
      next = next.next ∙ ap (λ n. n + 1) (c.shown.ensures.taken ∙ sym taken);
    }
