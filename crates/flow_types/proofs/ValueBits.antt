-- How many value bits a number of nodes needs.
use Rattle.std.proofs.Common.{ℕ, ◌-◌, ◌^◌, ◌<◌, ◌≤◌, arith}
use Rattle.std.proofs.Math.Pow.{pow_mono}
use Rattle.flow_types.specs.Size.{AreValueBits}

-- fewer bits tell at most half as many nodes apart
no_fewer : (nodes bits fewer : ℕ) → 2 ^ (bits - 1) < nodes → fewer < bits → 2 ^ fewer < nodes
no_fewer nodes bits fewer many few =
    let within : fewer ≤ bits - 1 = omega arith in
    let less : 2 ^ fewer ≤ 2 ^ (bits - 1) = pow_mono within in
    omega arith

pub are_value_bits : (nodes bits : ℕ) → nodes ≤ 2 ^ bits → 2 ^ (bits - 1) < nodes → 1 ≤ bits → AreValueBits nodes bits
are_value_bits nodes bits enough many some = record {
  at_least_one = some;
  enough = enough;
  no_fewer = λ fewer _ few. no_fewer nodes bits fewer many few;
}
