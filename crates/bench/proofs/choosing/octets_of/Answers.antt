use Rattle.std.proofs.Common.{arith}
use Rattle.std.proofs.lemmas.List.Sums.{sum_by-le}
use Rattle.bench.proofs.choosing.octets_of.Goals as goal

pub choose-requires : goal.choose-requires
choose-requires c = omega (arith, sum_by-le (λ x. x) 6 c.args.sizes.now c.requires)
