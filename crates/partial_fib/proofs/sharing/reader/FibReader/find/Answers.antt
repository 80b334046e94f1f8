use Rattle.std.proofs.Common.{◌∙◌, sym, ap, subst, length}
use Rattle.partial_fib.specs.Ends.{There}
use Rattle.group_search.specs.Home.{Home}
use Rattle.partial_fib.specs.Rule.{opening_of}
use Rattle.partial_fib.specs.Store.{state_of}
use Rattle.partial_fib.specs.Turns.{turn_count}
use Rattle.partial_fib.proofs.Keeping.{before_one}
use Rattle.partial_fib.proofs.TurnSteps.{taken_is_length, version_is_count}
use Rattle.partial_fib.proofs.sharing.reader.FibReader.find.Goals as goal

pub invariant_of-self : goal.invariant_of-self
invariant_of-self g c =
    let entered = c.entered-reading.ensures in
    let known = subst (There _) (sym c.in-Some.ensures.value) c.self.invariant.0 in
    let x = c.entered-reading.result.part.value in
    let before = before_one c.in-Some.seat.place.me.0.client known.0 x known.1 entered.seen.later in
    let taken = taken_is_length (opening_of x) x.past.log entered.seen.right.unturned in (
      (x, c.leave.ensures.1 ∙ entered.seen.known, sym before.origin ∙ known.2, sym entered.past),
      entered.taken ∙ ap (λ fib. fib.taken) entered.seen.right.turned ∙ taken ∙ ap (λ past. length past.log) (sym entered.past),
    )

pub returns-clause-count : goal.returns-clause-count
returns-clause-count g c =
    let entered = c.entered-reading.ensures in
    let x = c.entered-reading.result.part.value in
    let at : Home = record { block = c.args.block; group = c.args.group } in
    c.find-found.ensures.version ∙ ap (λ shown. (state_of shown.fib).versions at) c.get.ensures ∙ ap (λ fib. fib.versions at) entered.seen.right.turned
    ∙ version_is_count (opening_of x) x.past.log at entered.seen.right.unturned ∙ ap (λ past. turn_count at past.log) (sym entered.past)
