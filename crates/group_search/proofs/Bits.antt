-- Masks of positions, by their bits.
use Rattle.std.proofs.Common.{◌≡◌, ◌≢◌, ℕ, ◌^◌, ◌<◌, min, ◌⊎◌, sym, ◌∙◌, ap, arith, ⊎_elim}
use Rattle.std.specs.Prelude.{bit_or, bit_and}
use Rattle.std.specs.Int.{bit_at}
use Rattle.std.proofs.lemmas.Nat.Bits.{bit_at_or, bit_at_and, bit_at-zero, bit_at-lt, bit_at-pow_other, same_from_bits}
use Rattle.std.proofs.lemmas.Bool.{cases_eq}

pub mask_assoc : (a b c : ℕ) → bit_or (bit_or a b) c ≡ bit_or a (bit_or b c)
mask_assoc a b c = same_from_bits _ _ (λ i. omega (arith, bit_at_or (bit_or a b) c i, bit_at_or a b i, bit_at_or a (bit_or b c) i, bit_at_or b c i))

-- a bit that isn't 1 is 0
pub other_bit : (n i : ℕ) → bit_at n i ≢ 1 → bit_at n i ≡ 0
other_bit n i h = omega (arith, bit_at-lt n i)

pub kept_by_or : (a b i : ℕ) → bit_at a i ≡ 1 → bit_at (bit_or a b) i ≡ 1
kept_by_or a b i h = omega (arith, bit_at_or a b i, bit_at-lt b i)

pub added_by_or : (a b i : ℕ) → bit_at b i ≡ 1 → bit_at (bit_or a b) i ≡ 1
added_by_or a b i h = omega (arith, bit_at_or a b i, bit_at-lt a i)

pub from_or : (a b i : ℕ) → bit_at (bit_or a b) i ≡ 1 → (bit_at a i ≡ 1) ⊎ (bit_at b i ≡ 1)
from_or a b i h =
    let e = bit_at_or a b i in
    let p = bit_at-lt a i in
    let q = bit_at-lt b i in
    grind arith

-- masks with no common position have no common bit
pub apart : (a b i : ℕ) → bit_and a b ≡ 0 → bit_at a i ≡ 1 → bit_at b i ≡ 0
apart a b i none h =
    omega (arith, sym (bit_at_and a b i) ∙ ap (λ n. bit_at n i) none ∙ bit_at-zero i, bit_at-lt b i)

min_apart : (x y : ℕ) → x < 2 → y < 2 → (x ≡ 1 → y ≡ 0) → min x y ≡ 0
min_apart x y p q h = grind arith

pub apart_from_bits : (a b : ℕ) → ((i : ℕ) → bit_at a i ≡ 1 → bit_at b i ≡ 0) → bit_and a b ≡ 0
apart_from_bits a b h =
    same_from_bits _ _ (λ i. bit_at_and a b i ∙ min_apart _ _ (bit_at-lt a i) (bit_at-lt b i) (h i) ∙ sym (bit_at-zero i))

-- a power of 2 has one bit
pub place_from_bit : (p i : ℕ) → bit_at (2 ^ p) i ≡ 1 → i ≡ p
place_from_bit p i h =
    ⊎_elim (λ same. same) (λ (other : i ≢ p). absurd (omega (arith, bit_at-pow_other p i other))) (cases_eq i p)
