-- What stands in a list with one more element, before its first or behind its last.
use Rattle.std.proofs.Common.{◌≡◌, ◌⊎◌, ℕ, zero, suc, ◌+◌, ◌<◌, List, [], ◌∷◌, ◌++◌, length, get_or, Some, refl, subst, inl, inr, arith, length-append}
use Rattle.std.specs.Prelude.{Contains}
use Rattle.std.specs.List.{slice_get}
use Rattle.std.proofs.Math.ListN.{get_or-append}
use Rattle.std.proofs.lemmas.Bool.{cases_lt}
use Rattle.std.proofs.lemmas.List.{get_or_push}

-- ---- one more before the first

pub Contains-first : {X : Type 0} (first : X) (rest : List X) → Contains (first ∷ rest) first
Contains-first first rest = (0, omega arith, refl)

pub Contains-later : {X : Type 0} (first x : X) (rest : List X) → Contains rest x → Contains (first ∷ rest) x
Contains-later first x rest h = (suc h.0, omega (arith, h.1), h.2)

Contains_cases-at : {X : Type 0} (first x : X) (rest : List X) (k : ℕ) → k < length (first ∷ rest) → get_or (first ∷ rest) k x ≡ x → (first ≡ x) ⊎ Contains rest x
Contains_cases-at first x rest zero low same = inl same
Contains_cases-at first x rest (suc k) low same = inr (k, omega arith, same)

-- what is there stands first or later
pub Contains_cases : {X : Type 0} (first x : X) (rest : List X) → Contains (first ∷ rest) x → (first ≡ x) ⊎ Contains rest x
Contains_cases first x rest h = Contains_cases-at first x rest h.0 h.1 h.2

-- ---- one more behind the last

pub length_pushed : {X : Type 0} (xs : List X) (x : X) → length (xs ++ x ∷ []) ≡ length xs + 1
length_pushed xs x = length-append xs (x ∷ [])

pub pushed_before : {X : Type 0} (xs : List X) (x : X) (i : ℕ) → i < length xs → slice_get (xs ++ x ∷ []) i ≡ slice_get xs i
pushed_before [] x i low = absurd (omega arith)
pushed_before (first ∷ xs) x zero low = refl
pushed_before (first ∷ xs) x (suc i) low = pushed_before xs x i (omega arith)

pub pushed_last : {X : Type 0} (xs : List X) (x : X) (i : ℕ) → i ≡ length xs → slice_get (xs ++ x ∷ []) i ≡ Some x
pushed_last [] x zero is = refl
pushed_last [] x (suc i) is = absurd (omega arith)
pushed_last (first ∷ xs) x zero is = absurd (omega arith)
pushed_last (first ∷ xs) x (suc i) is = pushed_last xs x i (omega arith)

-- what holds of each element and its place, and of the new one at its place
pub each_pushed : {X : Type 0} (P : ℕ → X → Type 0) (xs : List X) (x : X) → ((i : ℕ) (d : X) → i < length xs → P i (get_or xs i d)) → P (length xs) x
    → (i : ℕ) (d : X) → i < length (xs ++ x ∷ []) → P i (get_or (xs ++ x ∷ []) i d)
each_pushed P xs x each new i d low = elim (cases_lt i (length xs)) [
  | inl before ↦ rw (get_or-append xs (x ∷ []) d i before) (each i d before)
  | inr past ↦
      let last : length xs ≡ i = omega (arith, length-append xs (x ∷ [])) in
      rw (get_or_push xs x d i last) (subst (λ (n : ℕ). P n x) last new)
]
