-- What holds of any two places of a list holds of any two places of its permutations.
use Rattle.std.proofs.Common.{◌≡◌, ◌≢◌, ◌⊎◌, ℕ, ◌<◌, List, length, get_or, refl, arith, ⊎_elim, inl, inr}
use Rattle.std.specs.Prelude.{AllPairs, IsPermutation}
use Rattle.std.specs.List.{swap}
use Rattle.std.proofs.lemmas.Bool.{cases_eq, cases_order}
use Rattle.std.proofs.lemmas.List.Edits.{swapped_from_swap, length-swap}
use Rattle.std.proofs.lemmas.List.Sorted.{IsPermutation-keeps}

module _ {X : Type 0} (R : X → X → Type 0) where
  Apart : List X → Type 0
  Apart xs = (i j : ℕ) (d : X) → i ≢ j → i < length xs → j < length xs → R (get_or xs i d) (get_or xs j d)

  -- the place of the list before the exchange
  before : (xs : List X) (a b : ℕ) → a < length xs → b < length xs → (i : ℕ) (d : X) → i < length xs
      → (p : ℕ) × (p < length xs) × (get_or (swap xs a b) i d ≡ get_or xs p d) × ((i ≡ a) × (p ≡ b) ⊎ ((i ≢ a) × (i ≡ b) × (p ≡ a) ⊎ ((i ≢ a) × (i ≢ b) × (p ≡ i))))
  before xs a b la lb i d li =
      let swapped = swapped_from_swap xs (swap xs a b) a b d la lb refl in
      ⊎_elim
      (λ (same : i ≡ a). (b, lb, rw same swapped.0, inl (same, refl)))
      (λ (not_a : i ≢ a). ⊎_elim
      (λ (same : i ≡ b). (a, la, rw same swapped.1, inr (inl (not_a, same, refl))))
      (λ (not_b : i ≢ b). (i, li, swapped.2 i not_a not_b, inr (inr (not_a, not_b, refl))))
      (cases_eq i b))
      (cases_eq i a)

  exchanged : (xs : List X) (a b : ℕ) → a < length xs → b < length xs → Apart xs → Apart (swap xs a b)
  unfolding Apart
  exchanged xs a b la lb h i j d other li lj =
      let same_length = length-swap xs a b in
      let from_i = before xs a b la lb i d (omega arith) in
      let from_j = before xs a b la lb j d (omega arith) in
      let other' : from_i.0 ≢ from_j.0 = λ e. grind (arith, from_i.3, from_j.3) in
      rw (from_i.2, from_j.2) (h from_i.0 from_j.0 d other' from_i.1 from_j.1)

  pub AllPairs-permutation : ((x y : X) → R x y → R y x) → (xs ys : List X) → IsPermutation xs ys → AllPairs R xs → AllPairs R ys
  unfolding Apart
  AllPairs-permutation symmetric xs ys p h =
      let apart : Apart xs = λ i j d other li lj. ⊎_elim (λ (same : i ≡ j). absurd (other same))
      (λ o. ⊎_elim (λ (low : i < j). h i j d low lj) (λ (high : j < i). symmetric _ _ (h j i d high li)) o) (cases_order i j) in
      let kept = IsPermutation-keeps xs Apart apart (λ l i j li lj. exchanged l i j li lj) ys p in
      λ i j d low high. kept i j d (omega arith) (omega arith) high
