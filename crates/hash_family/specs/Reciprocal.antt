-- Remainders by a number of blocks, by products.
use Rattle.std.specs.Prelude.{ℕ, ◌≡◌, ◌≤◌, ◌+◌, ◌/◌, ◌%◌, ◌^◌}

-- the factor is 2^64 divided by the number of blocks, rounded up, modulo 2^64
pub record IsReciprocal (factor blocks : ℕ) : Type 0 where
  pub enough : 1 ≤ blocks
  pub few : blocks ≤ 256
  pub rounded_up : factor ≡ (18446744073709551615 / blocks + 1) % 2 ^ 64
