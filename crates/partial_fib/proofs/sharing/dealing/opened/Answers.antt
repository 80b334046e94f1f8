use Rattle.std.proofs.Common.{◌≡◌, ◌∙◌, sym, ap, subst, fold}
use Rattle.partial_fib.specs.declared.sharing.shown.Shown.{Shown}
use Rattle.partial_fib.specs.Rule.{IsBefore, IsRight, shown_after}
use Rattle.partial_fib.proofs.Keeping.{before_self, turns}
use Rattle.partial_fib.proofs.sharing.dealing.opened.Goals as goal

pub publish_as-pen-requires : goal.publish_as-pen-requires
publish_as-pen-requires g c next is =
    let x = c.args.pen.desk.shown.value in
    let same : next ≡ x = is ∙ ap (λ l. fold shown_after x l) c.requires.idle in
    turns _ _ x next (λ right. subst (λ (y : Shown). IsRight y × IsBefore x y) (sym same) (right, before_self x))
