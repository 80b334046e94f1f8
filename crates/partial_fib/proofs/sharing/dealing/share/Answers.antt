use Rattle.std.proofs.Common.{◌∙◌, sym, ap, refl, subst, arith}
use Rattle.partial_fib.specs.Rule.{IsRight}
use Rattle.partial_fib.specs.Store.{FibStore, IsUnturned}
use Rattle.partial_fib.proofs.Keeping.{right_at_first}
use Rattle.partial_fib.proofs.sharing.dealing.share.Goals as goal

pub opened-requires-clause-right : goal.opened-requires-clause-right
opened-requires-clause-right g c =
    let fib : FibStore = c.args.fib in
    let unturned : IsUnturned fib = record {
      whole = c.len-whole.ensures.whole;
      untaken = c.requires.fresh;
      unversioned = λ at. omega (arith, c.len-whole.ensures.few at, c.requires.fresh);
    } in
    let first = right_at_first _ fib refl (ap (λ origin. origin.log) c.again.ensures ∙ c.origin-opening.ensures)
    (ap (λ past. past.log) c.again-2.ensures ∙ c.new-author.ensures) unturned in
    subst IsRight (sym c.in_ok-new.ensures.0) first

pub new-writer-requires-clause-right : goal.new-writer-requires-clause-right
new-writer-requires-clause-right g c = subst IsRight (sym c.dealt-pen.ensures.shown) c.in_ok-pen.ensures.right
