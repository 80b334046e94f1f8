-- The pairs that serve a group, one for each value bit.
use Rattle.std.specs.Prelude.{ℕ, ◌≡◌, ◌≤◌, ◌-◌, List, length, take, drop, replicate, ◌++◌}
use Rattle.std.proofs.Common.{arith, length-take, take-append-drop}
use Rattle.group_search.specs.declared.entry.Pair.{Pair}
use Rattle.flow_types.specs.Size.{most_value_bits}

abbrev pub zero_pair : Pair
zero_pair = record { index = 0; array = 0 }

-- what every `Served` is: 1 to 4 pairs, and zero pairs after them
pub record IsServed (bits : ℕ) (pairs : List Pair) : Type 0 where
  pub enough : 1 ≤ bits
  pub few : bits ≤ most_value_bits
  pub width : length pairs ≡ most_value_bits
  pub rest : drop bits pairs ≡ replicate (most_value_bits - bits) zero_pair

-- the pairs of the value with zero pairs after them are the pairs of the fields
pub padded : (bits : ℕ) (pairs : List Pair) → IsServed bits pairs → take bits pairs ++ replicate (most_value_bits - bits) zero_pair ≡ pairs
padded bits pairs h = rw (← h.rest) (take-append-drop bits pairs)

pub length_taken : (bits : ℕ) (pairs : List Pair) → IsServed bits pairs → length (take bits pairs) ≡ bits
length_taken bits pairs h = omega (arith, length-take bits pairs, h.few, h.width)
