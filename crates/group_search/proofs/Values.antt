-- The value that pairs give a key, bit after bit.
use Rattle.std.proofs.Common.{◌≡◌, ℕ, zero, suc, ◌+◌, ◌*◌, ◌/◌, ◌%◌, ◌^◌, ◌<◌, ◌≤◌, List, [], length, drop, get_or, sym, ap, arith, add-one, drop-cons}
use Rattle.std.specs.Prelude.{bit_or, bit_and}
use Rattle.std.specs.Int.{bit_at}
use Rattle.std.specs.Int.Bits.{or_shifted_r}
use Rattle.std.proofs.Math.ListN.{drop_of_length-le}
use Rattle.std.proofs.Math.Nat.{pow-suc}
use Rattle.std.proofs.lemmas.Nat.{pow_below}
use Rattle.std.proofs.lemmas.Nat.Bits.{bit_at-lt, shr_and_one}
use Rattle.hash_family.specs.Hash.{position}
use Rattle.hash_family.specs.declared.pairing.HashPair.{HashPair}
use Rattle.group_search.specs.declared.entry.Pair.{Pair}
use Rattle.flow_types.specs.Size.{most_value_bits}
use Rattle.group_search.specs.Served.{zero_pair}
use Rattle.group_search.specs.Decoding.{value_of}

-- the value has the bits of the first pairs, and what the others give comes above them
pub record IsValueSoFar (hashes : HashPair) (pairs : List Pair) (bit value : ℕ) : Type 0 where
  pub sum : value + value_of hashes (drop bit pairs) * 2 ^ bit ≡ value_of hashes pairs
  pub small : value < 2 ^ bit

value_of_drop : (hashes : HashPair) (pairs : List Pair) (bit : ℕ) → bit < length pairs
    → value_of hashes (drop bit pairs)
    ≡ bit_at (get_or pairs bit zero_pair).array (position hashes (get_or pairs bit zero_pair).index) + 2 * value_of hashes (drop (bit + 1) pairs)
unfolding value_of
value_of_drop hashes pairs bit low = rw (add-one, drop-cons pairs bit zero_pair)

bit_times : (x n : ℕ) → x < 2 → x * n ≤ n
bit_times zero n h = omega arith
bit_times (suc zero) n h = omega arith
bit_times (suc (suc x)) n h = absurd (omega arith)

-- the next bit above those so far
add_bit : (x bit value : ℕ) → x < 2 → bit < 8 → value < 2 ^ bit → bit_or value (x * 2 ^ bit % 256) ≡ x * 2 ^ bit + value
add_bit x bit value hx hb hv =
    let small : 2 ^ bit < 256 = pow_below bit 8 hb in
    let low = bit_times x (2 ^ bit) hx in
    let whole : x * 2 ^ bit % 256 ≡ x * 2 ^ bit = omega arith in
    rw whole (or_shifted_r x bit value hv)

sum_more : (x power value rest total above : ℕ) → value + total * power ≡ above → total ≡ x + 2 * rest → (x * power + value) + rest * (2 * power) ≡ above
sum_more x power value rest total above e f = omega (arith, ap (λ t. value + t * power) f)

pub value_more : (hashes : HashPair) (pairs : List Pair) (bit value place : ℕ) → bit < length pairs → length pairs ≤ most_value_bits
    → place ≡ position hashes (get_or pairs bit zero_pair).index → IsValueSoFar hashes pairs bit value
    → IsValueSoFar hashes pairs (bit + 1) (bit_or value (bit_and ((get_or pairs bit zero_pair).array / 2 ^ place) 1 * 2 ^ bit % 256))
value_more hashes pairs bit value place low few at so_far =
    let array : ℕ = (get_or pairs bit zero_pair).array in
    let x : ℕ = bit_at array place in
    let is_bit : bit_and (array / 2 ^ place) 1 ≡ x = shr_and_one array place in
    let small = bit_at-lt array place in
    let added : bit_or value (bit_and (array / 2 ^ place) 1 * 2 ^ bit % 256) ≡ x * 2 ^ bit + value = rw is_bit (add_bit x bit value small (omega arith) so_far.small) in
    let next : value_of hashes (drop bit pairs) ≡ x + 2 * value_of hashes (drop (bit + 1) pairs) = rw at (value_of_drop hashes pairs bit low) in
    let power : 2 ^ (bit + 1) ≡ 2 * 2 ^ bit = rw add-one (omega (arith, pow-suc 2 bit)) in
    rw added record {
      sum = rw power (sum_more x (2 ^ bit) value (value_of hashes (drop (bit + 1) pairs)) _ _ so_far.sum next);
      small = rw power (omega (arith, bit_times x (2 ^ bit) small, so_far.small));
    }

pub value_whole : (hashes : HashPair) (pairs : List Pair) (bit value : ℕ) → length pairs ≤ bit → IsValueSoFar hashes pairs bit value → value ≡ value_of hashes pairs
unfolding value_of
value_whole hashes pairs bit value high so_far =
    let none : drop bit pairs ≡ [] = drop_of_length-le pairs high in
    omega (arith, sym so_far.sum, rw none at so_far.sum)
