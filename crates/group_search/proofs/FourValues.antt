-- The value of four pairs, two in a word.
use Rattle.std.proofs.Common.{ℕ, zero, suc, ◌≡◌, ◌∙◌, ◌+◌, ◌*◌, ◌/◌, ◌-◌, ◌^◌, List, [], ◌∷◌, ◌++◌, replicate, ap, refl, arith}
use Rattle.std.specs.Int.{bit_at}
use Rattle.std.proofs.lemmas.Nat.Bits.{bit_at-zero}
use Rattle.flow_types.specs.Size.{most_value_bits}
use Rattle.hash_family.specs.Hash.{position}
use Rattle.hash_family.specs.declared.pairing.HashPair.{HashPair}
use Rattle.group_search.specs.declared.entry.Pair.{Pair}
use Rattle.group_search.specs.Decoding.{value_of}
use Rattle.group_search.specs.Served.{zero_pair}
use Rattle.group_search.specs.Words.{AreServedWords, pair_in}
use Rattle.group_search.proofs.WordLemmas.{pairs_there, pairs_back}

pub four : (hashes : HashPair) (a b c d : Pair) → value_of hashes (a ∷ b ∷ []) + 4 * value_of hashes (c ∷ d ∷ []) ≡ value_of hashes (a ∷ b ∷ c ∷ d ∷ [])
unfolding value_of
four hashes a b c d = omega arith

of_zero : (hashes : HashPair) → value_of hashes (pair_in 0 ∷ pair_in (0 / 2 ^ 24) ∷ []) ≡ 0
unfolding value_of
of_zero hashes = omega (arith, bit_at-zero (position hashes 0))

pub of_zero_word : (hashes : HashPair) (word : ℕ) → word ≡ 0 → value_of hashes (pair_in word ∷ pair_in (word / 2 ^ 24) ∷ []) ≡ 0
of_zero_word hashes word none = ap (λ (n : ℕ). value_of hashes (pair_in n ∷ pair_in (n / 2 ^ 24) ∷ [])) none ∙ of_zero hashes

of_zeros : (hashes : HashPair) (n : ℕ) → value_of hashes (replicate n zero_pair) ≡ 0
unfolding value_of
of_zeros hashes zero = refl
of_zeros hashes (suc n) = omega (arith, bit_at-zero (position hashes 0), of_zeros hashes n)

padded : (hashes : HashPair) (pairs : List Pair) (n : ℕ) → value_of hashes (pairs ++ replicate n zero_pair) ≡ value_of hashes pairs
unfolding value_of
padded hashes [] n = of_zeros hashes n
padded hashes (p ∷ pairs) n = ap (λ (v : ℕ). bit_at p.array (position hashes p.index) + 2 * v) (padded hashes pairs n)

pub of_served : (hashes : HashPair) (bits : ℕ) (pairs : List Pair) (words : List ℕ) → AreServedWords bits pairs words → value_of hashes (pairs_there words) ≡ value_of hashes pairs
of_served hashes bits pairs words h = ap (value_of hashes) (pairs_back bits pairs words h) ∙ padded hashes pairs (most_value_bits - bits)
