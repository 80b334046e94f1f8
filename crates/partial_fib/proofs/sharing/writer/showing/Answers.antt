use Rattle.std.proofs.Common.{◌∙◌, ◌++◌, ◌∷◌, [], sym, ap, subst}
use Rattle.partial_fib.specs.declared.sharing.shown.Shown.{Shown}
use Rattle.delta_codec.specs.Messages.{FibMessageFits}
use Rattle.partial_fib.proofs.Keeping.{IsNext, steps}
use Rattle.partial_fib.proofs.sharing.writer.showing.Goals as goal

pub publish_as-pen-requires : goal.publish_as-pen-requires
publish_as-pen-requires g c next is =
    let was = c.in-Ok.ensures {u = tt} in
    let x = c.append.new.self.desk.shown.value in
    let same = ap (λ d. d.shown.value) was.desk in
    let pending = was.pending ∙ ap (λ l. l ++ c.args.turn ∷ []) c.requires.idle in
    let there : IsNext c.args.pen.desk.shown.value c.args.turn = record {
      fits = subst (λ size. FibMessageFits size c.args.turn.message) c.requires.shape c.args.turn.fits;
      own = c.requires.owner;
      values = c.are_values.ensures;
      book = c.requires.next.0;
      log = c.requires.next.1;
    } in
    steps _ _ x next c.args.turn _ pending (subst (λ (y : Shown). IsNext y c.args.turn) (sym same) there) is
