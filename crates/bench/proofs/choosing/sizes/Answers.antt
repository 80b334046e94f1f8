use Rattle.std.proofs.Common.{ℕ, ◌<◌, arith, refl}
use Rattle.std.proofs.lemmas.List.{get_or-replicate}
use Rattle.std.proofs.lemmas.Grind.{get_or_default_zero}
use Rattle.bench.proofs.choosing.sizes.Goals as goal

pub buckets-init : goal.buckets-init
buckets-init c = record { all = refl; few = λ k inside. omega (arith, get_or-replicate {A = ℕ} 256 k 0 0 inside) }

pub returns : goal.returns
returns c = λ k d inside.
    let within : k < 256 = omega (arith, c.buckets.invariant.all) in
    omega (arith, get_or_default_zero c.buckets.sizes k d inside, c.buckets.invariant.few k within)
