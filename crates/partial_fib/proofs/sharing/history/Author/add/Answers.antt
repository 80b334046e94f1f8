use Rattle.std.proofs.Common.{sym, ◌∙◌, ap}
use Rattle.partial_fib.proofs.Adding.{adds_moves}
use Rattle.partial_fib.proofs.sharing.history.Author.add.Goals as goal

pub compare_exchange-found-requires : goal.compare_exchange-found-requires
compare_exchange-found-requires c =
    let author = c.args.self.now in
    let offer = c.plain-offer.ensures in
    let pen = c.no_pen-pen.ensures in
    let book = sym (ap (λ word. word.book) author.head_is) in (
      ap (λ word. word.tracked) author.head_is,
      book,
      pen.0 ∙ book,
      offer.0,
      rw (ap (λ word. word.key) author.head_is, pen.1, offer.1, offer.3)
          (adds_moves author.past.log c.args.turn.now author.count (sym author.counted)),
    )
