-- In a list whose elements rise by a number, those of one number stand beside one another.
use Rattle.std.proofs.Common.{ℕ, ◌≡◌, ◌∙◌, ◌+◌, ◌<◌, ◌≤◌, Bool, true, false, List, [], ◌∷◌, ◌++◌, length, take, drop, get_or, ap, refl, sym, subst, arith, length-drop}
use Rattle.std.specs.Prelude.{All, filter, nat_lt, nat_le, ◌==◌}
use Rattle.std.specs.List.Sorted.{IsPartitionPoint}
use Rattle.std.proofs.lemmas.Bool.Decides.{nat_tests}
use Rattle.std.proofs.lemmas.List.{append-nil, get_or-take, get_or-drop, length-take, take-append-drop}
use Rattle.std.proofs.lemmas.List.Elements.{All-head, All-tail, filter-append}

module _ {X : Type 0} (p : X → Bool) where
  pub filter_all : (xs : List X) → All (λ (x : X). p x ≡ true) xs → filter p xs ≡ xs
  filter_all [] each = refl
  filter_all (x ∷ xs) each = rw (All-head (λ (y : X). p y ≡ true) x xs each) (ap (λ (l : List X). x ∷ l) (filter_all xs (All-tail (λ (y : X). p y ≡ true) x xs each)))

  pub filter_none : (xs : List X) → All (λ (x : X). p x ≡ false) xs → filter p xs ≡ []
  filter_none [] each = refl
  filter_none (x ∷ xs) each = rw (All-head (λ (y : X). p y ≡ false) x xs each) (filter_none xs (All-tail (λ (y : X). p y ≡ false) x xs each))

module _ {X : Type 0} (n : X → ℕ) (b : ℕ) (xs : List X) (start count : ℕ) (inside : start ≤ length xs)
    (starts : IsPartitionPoint (λ (x : X). nat_lt (n x) b ≡ true) (λ (x : X). nat_lt (n x) b ≡ false) xs start)
    (ends : IsPartitionPoint (λ (x : X). nat_le (n x) b ≡ true) (λ (x : X). nat_le (n x) b ≡ false) (drop start xs) count) where
  before : All (λ (x : X). (n x == b) ≡ false) (take start xs)
  before k d low =
      let low_here : k < start = omega (arith, length-take start xs, low) in
      let below : nat_lt (n (get_or xs k d)) b ≡ true = starts.0 k d (omega arith) low_here in
      rw (get_or-take start xs k d low_here) (grind (arith, nat_tests, below))

  after : All (λ (x : X). (n x == b) ≡ false) (drop count (drop start xs))
  after k d low =
      let high : count + k < length (drop start xs) = omega (arith, length-drop count (drop start xs), low) in
      let above : nat_le (n (get_or (drop start xs) (count + k) d)) b ≡ false = ends.1 (count + k) d (omega arith) high in
      rw (get_or-drop count (drop start xs) k d) (grind (arith, nat_tests, above))

  between : All (λ (x : X). (n x == b) ≡ true) (take count (drop start xs))
  between k d low =
      let long = length-take count (drop start xs) in
      let low_here : k < count = omega (arith, long, low) in
      let not_below : nat_lt (n (get_or xs (start + k) d)) b ≡ false = starts.1 (start + k) d (omega arith) (omega (arith, long, length-drop start xs, low)) in
      let read : get_or (drop start xs) k d ≡ get_or xs (start + k) d = get_or-drop start xs k d in
      let not_above : nat_le (n (get_or xs (start + k) d)) b ≡ true = subst (λ (x : X). nat_le (n x) b ≡ true) read (ends.0 k d (omega arith) low_here) in
      rw (get_or-take count (drop start xs) k d low_here, read) (grind (arith, nat_tests, not_below, not_above))

  -- they are all the elements of the number
  pub neighbours : take count (drop start xs) ≡ filter (λ (x : X). n x == b) xs
  neighbours =
      let here : X → Bool = λ (x : X). n x == b in
      sym
      (ap (filter here) (sym (take-append-drop start xs))
      ∙ filter-append here (take start xs) (drop start xs)
      ∙ ap (λ (l : List X). l ++ filter here (drop start xs)) (filter_none here (take start xs) before)
      ∙ ap (filter here) (sym (take-append-drop count (drop start xs)))
      ∙ filter-append here (take count (drop start xs)) (drop count (drop start xs))
      ∙ ap (λ (l : List X). l ++ filter here (drop count (drop start xs))) (filter_all here (take count (drop start xs)) between)
      ∙ ap (λ (l : List X). take count (drop start xs) ++ l) (filter_none here (drop count (drop start xs)) after)
      ∙ append-nil (take count (drop start xs)))
