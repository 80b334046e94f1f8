-- Elements by their numbers, taken one after the other.
use Rattle.std.proofs.Common.{◌≡◌, ◌+◌, ℕ, zero, suc, List, [], ◌∷◌, ◌++◌, length, Some, sym, subst, arith}
use Rattle.std.specs.List.{slice_get}
use Rattle.std.proofs.lemmas.Option.{same_Some}
use Rattle.turn_relay.specs.Each.{AllFrom, Every}

module _ {A : Type 0} (P : ℕ → A → Type 0) where
  between : (first : ℕ) (xs : List A) (x : A) (ys : List A) → AllFrom P first (xs ++ x ∷ ys) → P (first + length xs) x
  between first [] x ys all = let here : first ≡ first + 0 = omega arith in subst (λ (n : ℕ). P n x) here all.0
  between first (y ∷ xs) x ys all =
      let next : first + 1 + length xs ≡ first + suc (length xs) = omega arith in subst (λ (n : ℕ). P n x) next (between (first + 1) xs x ys all.1)

  -- of the first that is left
  pub next_at : (xs left all : List A) (x : A) (rest : List A) → xs ++ left ≡ all → left ≡ x ∷ rest → AllFrom P 0 all → P (length xs) x
  next_at xs left all x rest whole is each =
      let place : 0 + length xs ≡ length xs = omega arith in
      subst (λ (n : ℕ). P n x) place
      (between 0 xs x rest (subst (λ (ys : List A). AllFrom P 0 (xs ++ ys)) is (subst (AllFrom P 0) (sym whole) each)))

  more_from : (first : ℕ) (xs : List A) (x : A) → AllFrom P first xs → P (first + length xs) x → AllFrom P first (xs ++ x ∷ [])
  more_from first [] x all is = let here : first + 0 ≡ first = omega arith in (subst (λ (n : ℕ). P n x) here is, tt)
  more_from first (y ∷ xs) x all is =
      let next : first + suc (length xs) ≡ first + 1 + length xs = omega arith in (all.0, more_from (first + 1) xs x all.1 (subst (λ (n : ℕ). P n x) next is))

  -- and of one more
  pub one_more : (xs : List A) (x : A) (number : ℕ) → number ≡ length xs → AllFrom P 0 xs → P number x → AllFrom P 0 (xs ++ x ∷ [])
  one_more xs x number count all is = let place : number ≡ 0 + length xs = omega (arith, count) in more_from 0 xs x all (subst (λ (n : ℕ). P n x) place is)

  from_at : (first : ℕ) (xs : List A) → AllFrom P first xs → (i : ℕ) (x : A) → slice_get xs i ≡ Some x → P (first + i) x
  from_at first [] all i x there = absurd cc
  from_at first (y ∷ xs) all zero x there =
      let here : first ≡ first + 0 = omega arith in subst (λ (n : ℕ). P n x) here (subst (P first) (same_Some y x there) all.0)
  from_at first (y ∷ xs) all (suc i) x there =
      let next : first + 1 + i ≡ first + suc i = omega arith in subst (λ (n : ℕ). P n x) next (from_at (first + 1) xs all.1 i x there)

  pub all_at : (xs : List A) → AllFrom P 0 xs → (i : ℕ) (x : A) → slice_get xs i ≡ Some x → P i x
  all_at xs all i x there = let place : 0 + i ≡ i = omega arith in subst (λ (n : ℕ). P n x) place (from_at 0 xs all i x there)

pub every_weaker : {A : Type 0} (P Q : A → Type 0) → ((x : A) → P x → Q x) → (xs : List A) → Every P xs → Every Q xs
every_weaker P Q weaker [] all = tt
every_weaker P Q weaker (x ∷ xs) all = (weaker x all.0, every_weaker P Q weaker xs all.1)
