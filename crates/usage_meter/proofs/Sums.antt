-- Sums over a list of which one element is known.
use Rattle.std.proofs.Common.{◌≡◌, ℕ, zero, suc, ◌+◌, ◌≤◌, List, [], ◌∷◌, set, sum_by, sym, ap, arith}
use mathlib.Core.Option.{some, some-injective, some-ne-none}
use lib.ListN.{get_elem?}
use Rattle.std.proofs.lemmas.List.Sums.{sum_by-cons}

module _ {A : Type 0} where
  -- the element becomes another
  pub sum_set : (f : A → ℕ) (xs : List A) (j : ℕ) (v w : A) → get_elem? xs j ≡ some v → sum_by f (set xs j w) + f v ≡ sum_by f xs + f w
  sum_set f [] j v w at = absurd (some-ne-none v (sym at))
  sum_set f (x ∷ xs) zero v w at = let is : f x ≡ f v = ap f (some-injective x v at) in omega (arith, sum_by-cons f w xs, sum_by-cons f x xs)
  sum_set f (x ∷ xs) (suc j) v w at = let rest = sum_set f xs j v w at in omega (arith, sum_by-cons f x (set xs j w), sum_by-cons f x xs)

  pub sum_le : (f g : A → ℕ) (xs : List A) → ((x : A) → g x ≤ f x) → sum_by g xs ≤ sum_by f xs
  sum_le f g [] less = omega arith
  sum_le f g (x ∷ xs) less = let rest = sum_le f g xs less in let one = less x in omega (arith, sum_by-cons f x xs, sum_by-cons g x xs)

  -- what g has beside the element is no more than what f has beside it
  pub sum_beside : (f g : A → ℕ) (xs : List A) (j : ℕ) (v : A) → ((x : A) → g x ≤ f x) → get_elem? xs j ≡ some v → sum_by g xs + f v ≤ sum_by f xs + g v
  sum_beside f g [] j v less at = absurd (some-ne-none v (sym at))
  sum_beside f g (x ∷ xs) zero v less at =
      let fs : f x ≡ f v = ap f (some-injective x v at) in let gs : g x ≡ g v = ap g (some-injective x v at) in let rest = sum_le f g xs less in
      omega (arith, sum_by-cons f x xs, sum_by-cons g x xs)
  sum_beside f g (x ∷ xs) (suc j) v less at = let rest = sum_beside f g xs j v less at in let one = less x in omega (arith, sum_by-cons f x xs, sum_by-cons g x xs)

  pub sum_part : (f : A → ℕ) (xs : List A) (j : ℕ) (v : A) → get_elem? xs j ≡ some v → f v ≤ sum_by f xs
  sum_part f [] j v at = absurd (some-ne-none v (sym at))
  sum_part f (x ∷ xs) zero v at = let is : f x ≡ f v = ap f (some-injective x v at) in omega (arith, sum_by-cons f x xs)
  sum_part f (x ∷ xs) (suc j) v at = let rest = sum_part f xs j v at in omega (arith, sum_by-cons f x xs)
