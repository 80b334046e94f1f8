-- How often numbers stand in lists, and sums over a list that changes at one index.
use Rattle.std.specs.Prelude.{◌≡◌, ◌≢◌, ℕ, zero, suc, ◌+◌, ◌<◌, List, [], ◌∷◌, ◌++◌, length, get_or, set, remove, map, cond, ◌==◌, ◌⊎◌, refl}
use Rattle.std.proofs.Common.{ap, inl, inr, arith}
use Rattle.std.specs.List.{sum_by}
use Rattle.std.proofs.lemmas.Bool.Decides.{eqb_tells}
use Rattle.std.proofs.lemmas.List.Sums.{sum_by-cons}
use Rattle.bucket_arena.specs.Chains.{occurrences}

-- 1 where the numbers are one, else 0
abbrev pub same : ℕ → ℕ → ℕ
same a b = cond (a == b) 1 0

pub same_or_not : (a b : ℕ) → ((a ≡ b) × (same a b ≡ 1)) ⊎ ((a ≢ b) × (same a b ≡ 0))
same_or_not a b = elim (eqb_tells a b) [ inl t ↦ inl (t.1, ap (λ c. cond c 1 0) t.0) | inr f ↦ inr (f.1, ap (λ c. cond c 1 0) f.0) ]

pub same_self : (a : ℕ) → same a a ≡ 1
same_self a = elim (same_or_not a a) [ inl t ↦ t.1 | inr f ↦ absurd (f.0 refl) ]

pub same_other : (a b : ℕ) → a ≢ b → same a b ≡ 0
same_other a b ne = elim (same_or_not a b) [ inl t ↦ absurd (ne t.0) | inr f ↦ f.1 ]

pub occurrences-append : (n : ℕ) (xs ys : List ℕ) → occurrences n (xs ++ ys) ≡ occurrences n xs + occurrences n ys
occurrences-append n [] ys = omega arith
occurrences-append n (x ∷ xs) ys = omega (arith, occurrences-append n xs ys)

pub occurrences-one : (n x : ℕ) → occurrences n (x ∷ []) ≡ same x n
occurrences-one n x = omega arith

-- each number of a list stands in it
pub stands : (xs : List ℕ) (i : ℕ) → i < length xs → 0 < occurrences (get_or xs i 0) xs
stands [] i l = absurd (omega arith)
stands (x ∷ xs) zero l = omega (arith, same_self x)
stands (x ∷ xs) (suc i) l = let l' : i < length xs = omega arith in omega (arith, stands xs i l')

pub occurrences-remove : (n : ℕ) (xs : List ℕ) (i : ℕ) → i < length xs → occurrences n (remove xs i) + same (get_or xs i 0) n ≡ occurrences n xs
occurrences-remove n [] i l = absurd (omega arith)
occurrences-remove n (x ∷ xs) zero l = omega arith
occurrences-remove n (x ∷ xs) (suc i) l = let l' : i < length xs = omega arith in omega (arith, occurrences-remove n xs i l')

pub remove_seam : {X : Type 0} (xs : List X) (y : X) (ys : List X) → remove (xs ++ y ∷ ys) (length xs) ≡ xs ++ ys
remove_seam [] y ys = refl
remove_seam (x ∷ xs) y ys = ap (λ l. x ∷ l) (remove_seam xs y ys)

module _ {X : Type 0} where
  pub all_same : (f g : X → ℕ) (xs : List X) (d : X) → ((i : ℕ) → i < length xs → g (get_or xs i d) ≡ f (get_or xs i d)) → sum_by g xs ≡ sum_by f xs
  all_same f g [] d agree = refl
  all_same f g (x ∷ xs) d agree =
      let here : g x ≡ f x = agree 0 (omega arith) in
      let rest = all_same f g xs d (λ i l. agree (suc i) (omega arith)) in omega (arith, here, rest, sum_by-cons g x xs, sum_by-cons f x xs)

  -- a sum over a list that changes at the index b, by functions that agree elsewhere
  pub sum_of_one : (f g : X → ℕ) (xs : List X) (b : ℕ) (y d : X) → b < length xs → ((i : ℕ) → i < length xs → i ≢ b → g (get_or xs i d) ≡ f (get_or xs i d))
      → sum_by g (set xs b y) + f (get_or xs b d) ≡ sum_by f xs + g y
  sum_of_one f g [] b y d l agree = absurd (omega arith)
  sum_of_one f g (x ∷ xs) zero y d l agree = let rest = all_same f g xs d (λ i l'. agree (suc i) (omega arith) (λ e. omega (arith, e))) in omega (arith, rest, sum_by-cons g y xs, sum_by-cons f x xs)
  sum_of_one f g (x ∷ xs) (suc b) y d l agree =
      let here : g x ≡ f x = agree 0 (omega arith) (λ e. omega (arith, e)) in
      let l' : b < length xs = omega arith in
      let rest = sum_of_one f g xs b y d l' (λ i li ne. agree (suc i) (omega arith) (λ e. ne (omega (arith, e)))) in omega (arith, here, rest, sum_by-cons g x (set xs b y), sum_by-cons f x xs)

module _ {X Y : Type 0} where
  pub map_same : (f g : X → Y) (xs : List X) (d : X) → ((i : ℕ) → i < length xs → g (get_or xs i d) ≡ f (get_or xs i d)) → map g xs ≡ map f xs
  map_same f g [] d agree = refl
  map_same f g (x ∷ xs) d agree =
      let here : g x ≡ f x = agree 0 (omega arith) in
      let rest = map_same f g xs d (λ i l. agree (suc i) (omega arith)) in (λ k. here k ∷ rest k)

  -- a list that changes at the index b, mapped by functions that agree elsewhere
  pub map_of_one : (f g : X → Y) (xs : List X) (b : ℕ) (y d : X) → ((i : ℕ) → i < length xs → i ≢ b → g (get_or xs i d) ≡ f (get_or xs i d)) → map g (set xs b y) ≡ set (map f xs) b (g y)
  map_of_one f g [] b y d agree = refl
  map_of_one f g (x ∷ xs) zero y d agree = ap (λ l. g y ∷ l) (map_same f g xs d (λ i l. agree (suc i) (omega arith) (λ e. omega (arith, e))))
  map_of_one f g (x ∷ xs) (suc b) y d agree =
      let here : g x ≡ f x = agree 0 (omega arith) (λ e. omega (arith, e)) in
      let rest = map_of_one f g xs b y d (λ i l ne. agree (suc i) (omega arith) (λ e. ne (omega (arith, e)))) in (λ k. here k ∷ rest k)
