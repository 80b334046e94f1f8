use Rattle.std.proofs.Common.{◌≡◌, ◌∙◌, ◌++◌, ◌∷◌, ◌+◌, [], sym, ap, refl, List, Some, arith}
use Rattle.std.specs.Prelude.{replicate}
use Rattle.partial_fib.specs.Ends.{ReaderState}
use Rattle.partial_fib.specs.History.{shared_fib}
use Rattle.partial_fib.proofs.Keeping.{one_more_alike}
use Rattle.partial_fib.proofs.sharing.dealing.dealt.Goals as goal

pub readers-init : goal.readers-init
readers-init g c = (refl, refl, refl, c.requires.none.0, refl, c.requires.none.1, omega arith)

pub seated-back-requires : goal.seated-back-requires
seated-back-requires g c = c.readers.invariant.0 ∙ c.requires.known ∙ ap (λ x. Some x) (sym c.readers.invariant.1)

pub new-requires-clause-known : goal.new-requires-clause-known
new-requires-clause-known g c =
    let same = c.readers.invariant.1 in (
      c.readers.pen.desk.shown.value,
      c.seated-back.ensures.seat,
      ap (λ x. x.origin) same ∙ c.requires.shown.0 ∙ sym c.again.ensures,
      ap (λ x. x.past) same ∙ c.requires.shown.1 ∙ sym c.again-in-readers.ensures,
    )

pub push_reserved-requires : goal.push_reserved-requires
push_reserved-requires g c =
    let inv = c.readers.invariant in
    omega (arith, c.requires.room, inv.4, inv.5, c.readers-test.true)

pub readers-preserved : goal.readers-preserved
readers-preserved g c =
    let inv = c.readers.invariant in
    let seated = c.seated-back.ensures in
    let pushed = c.push_reserved.ensures in
    let start : ReaderState = record { book = c.args.past.now.book; opening = shared_fib c.args.opening.now.log; turns = [] } in
    let reader : c.new.result ≡ start = c.new.ensures ∙ (λ i. record {
      book = (c.again-in-readers.ensures i).book;
      opening = shared_fib (c.again.ensures i).log;
      turns = [];
    }) in (
      seated.known ∙ inv.0,
      ap (λ shown. shown.value) seated.shown ∙ inv.1,
      seated.pending ∙ inv.2,
      pushed.items ∙ ap (λ (r : ReaderState). c.readers.ends.items ++ r ∷ []) reader ∙ ap (λ (rs : List ReaderState). rs ++ start ∷ []) inv.3
          ∙ one_more_alike c.readers.counter start,
      pushed.capacity ∙ inv.4,
      pushed.len ∙ ap (λ n. n + 1) inv.5,
      omega (arith, c.readers-test.true),
    )

pub returns-clause-shown : goal.returns-clause-shown
returns-clause-shown g c = c.readers.invariant.1

pub returns-clause-idle : goal.returns-clause-idle
returns-clause-idle g c = c.readers.invariant.2

pub returns-clause-readers : goal.returns-clause-readers
returns-clause-readers g c =
    let start : ReaderState = record { book = c.args.past.now.book; opening = shared_fib c.args.opening.now.log; turns = [] } in
    let inv = c.readers.invariant in
    inv.3 ∙ ap (λ n. replicate n start) (omega (arith, c.readers-test.false, inv.6))
