-- A list of numbers has one order by rising number, however it was sorted.
use Rattle.std.proofs.Common.{◌≡◌, ◌⊎◌, ℕ, suc, ◌+◌, ◌<◌, ◌≤◌, ◌==◌, nat_lt, Bool, true, false, if◌then◌else◌, List, [], ◌∷◌, length, get_or, map, refl, sym, ap, ◌∙◌, arith, inl, inr}
use Rattle.std.specs.List.{AllByRecursion, sum_by}
use Rattle.std.specs.List.Sorted.{IsPermutation, IsNonDecreasingBy}
use Rattle.std.proofs.lemmas.Bool.{cases_order, ltb-true, ltb-false}
use Rattle.std.proofs.lemmas.Bool.Decides.{nat_tests}
use Rattle.std.proofs.lemmas.List.Sums.{sum_by-cons}
use Rattle.std.proofs.lemmas.List.Sorted.{sum_by-IsPermutation}
use Rattle.block_layout.specs.Dealing.{placed_by, ordered_by}

abbrev Rising : List ℕ → Type 0
Rising [] = Unit {0}
Rising (x ∷ xs) = AllByRecursion (λ y. x ≤ y) xs × Rising xs

abbrev one_if : ℕ → ℕ → ℕ
one_if v x = if x == v then 1 else 0

-- how often v stands in the list
abbrev times : ℕ → List ℕ → ℕ
times v [] = 0
times v (x ∷ xs) = one_if v x + times v xs

times_is : (v : ℕ) (xs : List ℕ) → times v xs ≡ sum_by (one_if v) xs
times_is v [] = refl
times_is v (x ∷ xs) = ap (λ n. one_if v x + n) (times_is v xs) ∙ sym (sum_by-cons (one_if v) x xs)

itself : (v : ℕ) → one_if v v ≡ 1
itself v = grind (arith, nat_tests)

another : (v x : ℕ) → v < x → one_if v x ≡ 0
another v x h = grind (arith, nat_tests)

none_above : (v : ℕ) (xs : List ℕ) → AllByRecursion (λ y. v < y) xs → times v xs ≡ 0
none_above v [] h = refl
none_above v (x ∷ xs) h = omega (arith, another v x h.0, none_above v xs h.1)

beyond : (v x : ℕ) (xs : List ℕ) → v < x → AllByRecursion (λ y. x ≤ y) xs → AllByRecursion (λ y. v < y) xs
beyond v x [] h all = tt
beyond v x (y ∷ ys) h all = (omega arith, beyond v x ys h all.1)

first_is_there : (v x : ℕ) (xs ys : List ℕ) → v < x → AllByRecursion (λ y. x ≤ y) xs → times v (v ∷ ys) ≡ times v (x ∷ xs) → ⊥
first_is_there v x xs ys h all e =
    omega (arith, e, itself v, another v x h, none_above v xs (beyond v x xs h all))

same_heads : (x y : ℕ) (xs ys : List ℕ) → AllByRecursion (λ z. x ≤ z) xs → AllByRecursion (λ z. y ≤ z) ys → ((v : ℕ) → times v (x ∷ xs) ≡ times v (y ∷ ys)) → (x ≡ y) ⊎ ((x < y) ⊎ (y < x)) → x ≡ y
same_heads x y xs ys up up' same (inl e) = e
same_heads x y xs ys up up' same (inr (inl h)) = absurd (first_is_there x y ys xs h up' (same x))
same_heads x y xs ys up up' same (inr (inr h)) = absurd (first_is_there y x xs ys h up (sym (same y)))

unique : (xs ys : List ℕ) → Rising xs → Rising ys → ((v : ℕ) → times v xs ≡ times v ys) → xs ≡ ys
unique [] [] up up' same = refl
unique [] (y ∷ ys) up up' same = absurd (omega (arith, same y, itself y))
unique (x ∷ xs) [] up up' same = absurd (omega (arith, same x, itself x))
unique (x ∷ xs) (y ∷ ys) up up' same =
    let first : x ≡ y = same_heads x y xs ys up.0 up'.0 same (cases_order x y) in
    let rest : xs ≡ ys = unique xs ys up.1 up'.1 (λ v. omega (arith, same v, ap (one_if v) first)) in
    cc

all_after : (x : ℕ) (xs : List ℕ) → ((k : ℕ) → k < length xs → x ≤ get_or xs k 0) → AllByRecursion (λ y. x ≤ y) xs
all_after x [] h = tt
all_after x (y ∷ ys) h = (h 0 (omega arith), all_after x ys (λ k few. h (suc k) (omega arith)))

-- what a sort ensures
non_decreasing : (xs : List ℕ) → ((i j : ℕ) → i ≤ j → j < length xs → get_or xs i 0 ≤ get_or xs j 0) → Rising xs
non_decreasing [] up = tt
non_decreasing (x ∷ xs) up = (
  all_after x xs (λ k few. up 0 (suc k) (omega arith) (omega arith)),
  non_decreasing xs (λ i j le few. up (suc i) (suc j) (omega arith) (omega arith)),
)

module _ (rank : ℕ → ℕ) where
  placed_or_not : (P : ℕ → Type 0) (b c : ℕ) (cs : List ℕ) (t : Bool) → P b → AllByRecursion P (c ∷ cs) → AllByRecursion P (placed_by rank b cs) → AllByRecursion P (if t then b ∷ c ∷ cs else c ∷ placed_by rank b cs)
  placed_or_not P b c cs true h all others = (h, all)
  placed_or_not P b c cs false h all others = (all.0, others)

  placed_all : (P : ℕ → Type 0) (b : ℕ) (bs : List ℕ) → P b → AllByRecursion P bs → AllByRecursion P (placed_by rank b bs)
  placed_all P b [] h all = (h, tt)
  placed_all P b (c ∷ cs) h all = placed_or_not P b c cs (nat_lt (rank b) (rank c)) h all (placed_all P b cs h all.1)

  pub ordered_all : (P : ℕ → Type 0) (bs : List ℕ) → AllByRecursion P bs → AllByRecursion P (ordered_by rank bs)
  ordered_all P [] all = tt
  ordered_all P (b ∷ bs) all = placed_all P b (ordered_by rank bs) all.0 (ordered_all P bs all.1)

  times_if : (v b c : ℕ) (cs : List ℕ) (t : Bool) → times v (map rank (placed_by rank b cs)) ≡ one_if v (rank b) + times v (map rank cs) → times v (map rank (if t then b ∷ c ∷ cs else c ∷ placed_by rank b cs)) ≡ one_if v (rank b) + (one_if v (rank c) + times v (map rank cs))
  times_if v b c cs true h = refl
  times_if v b c cs false h = omega arith

  times_placed : (v b : ℕ) (bs : List ℕ) → times v (map rank (placed_by rank b bs)) ≡ one_if v (rank b) + times v (map rank bs)
  times_placed v b [] = refl
  times_placed v b (c ∷ cs) = times_if v b c cs (nat_lt (rank b) (rank c)) (times_placed v b cs)

  times_ordered : (v : ℕ) (bs : List ℕ) → times v (map rank (ordered_by rank bs)) ≡ times v (map rank bs)
  times_ordered v [] = refl
  times_ordered v (b ∷ bs) = omega (arith, times_placed v b (ordered_by rank bs), times_ordered v bs)

  abbrev pub RisingBy : List ℕ → Type 0
  RisingBy [] = Unit {0}
  RisingBy (b ∷ bs) = AllByRecursion (λ c. rank b ≤ rank c) bs × RisingBy bs

  later : (b c : ℕ) (cs : List ℕ) → rank b ≤ rank c → AllByRecursion (λ d. rank c ≤ rank d) cs → AllByRecursion (λ d. rank b ≤ rank d) cs
  later b c [] h all = tt
  later b c (d ∷ ds) h all = (omega arith, later b c ds h all.1)

  rising_if : (b c : ℕ) (cs : List ℕ) (t : Bool) → nat_lt (rank b) (rank c) ≡ t → RisingBy (c ∷ cs) → RisingBy (placed_by rank b cs) → RisingBy (if t then b ∷ c ∷ cs else c ∷ placed_by rank b cs)
  rising_if b c cs true e up others =
      let below : rank b < rank c = ltb-true _ _ e in
      ((omega arith, later b c cs (omega arith) up.0), up)
  rising_if b c cs false e up others =
      (placed_all (λ d. rank c ≤ rank d) b cs (ltb-false _ _ e) up.0, others)

  rising_placed : (b : ℕ) (bs : List ℕ) → RisingBy bs → RisingBy (placed_by rank b bs)
  rising_placed b [] up = (tt, tt)
  rising_placed b (c ∷ cs) up = rising_if b c cs (nat_lt (rank b) (rank c)) refl up (rising_placed b cs up.1)

  pub rising_ordered : (bs : List ℕ) → RisingBy (ordered_by rank bs)
  rising_ordered [] = tt
  rising_ordered (b ∷ bs) = rising_placed b (ordered_by rank bs) (rising_ordered bs)

  ranks_above : (x : ℕ) (bs : List ℕ) → AllByRecursion (λ c. x ≤ rank c) bs → AllByRecursion (λ y. x ≤ y) (map rank bs)
  ranks_above x [] all = tt
  ranks_above x (b ∷ bs) all = (all.0, ranks_above x bs all.1)

  rising_ranks : (bs : List ℕ) → RisingBy bs → Rising (map rank bs)
  rising_ranks [] up = tt
  rising_ranks (b ∷ bs) up = (ranks_above (rank b) bs up.0, rising_ranks bs up.1)

  -- a sort of the ranks gives the ranks of the buckets in their order
  pub sorted_is : (bs sorted : List ℕ) → IsPermutation (map rank bs) sorted → IsNonDecreasingBy (λ x. x) sorted → sorted ≡ map rank (ordered_by rank bs)
  sorted_is bs sorted moved up =
      unique sorted (map rank (ordered_by rank bs)) (non_decreasing sorted (λ i j le few. up i j 0 le few))
      (rising_ranks (ordered_by rank bs) (rising_ordered bs))
      (λ v. times_is v sorted ∙ sum_by-IsPermutation (one_if v) (map rank bs) sorted moved
      ∙ sym (times_is v (map rank bs)) ∙ sym (times_ordered v bs))
