use Rattle.std.proofs.Common.{ℕ, ◌∙◌, ◌*◌, ◌/◌, ◌%◌, ap, arith}
use Rattle.hash_family.proofs.Reciprocals.{remainder}
use Rattle.hash_family.proofs.reciprocal.Reciprocal.remainder.Goals as goal

pub returns-clause-value : goal.returns-clause-value
returns-clause-value c =
    let by = c.self.inside in
    let is = c.self.invariant in
    ap (λ (n : ℕ). n * c.from-3.result / 18446744073709551616) c.from-2.ensures
    ∙ (ap (λ (n : ℕ). by.factor * n % 18446744073709551616 * c.from-3.result / 18446744073709551616) c.from.ensures
    ∙ (ap (λ (n : ℕ). by.factor * c.args.number % 18446744073709551616 * n / 18446744073709551616) c.from-3.ensures
    ∙ (remainder by.blocks by.factor c.args.number is.enough is.few is.rounded_up (omega (arith, c.ranges.number.fits))
    ∙ ap (λ (n : ℕ). c.args.number % n) c.self.view_is)))
