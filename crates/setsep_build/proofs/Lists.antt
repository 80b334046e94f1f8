-- Lists made from other lists, element by element.
use Rattle.std.proofs.Common.{ℕ, zero, suc, ◌≡◌, ◌∙◌, ◌+◌, ◌<◌, ◌≤◌, ◌&&◌, Bool, true, false, List, [], ◌∷◌, ◌++◌, length, map, sum, Option, Some, None, is_some, ap, sym, refl, arith}
use Rattle.std.specs.Prelude.{filter, count_by, option_to_list}
use Rattle.std.specs.List.{filter_map, range_with_len, slice_get, cons_option}
use Rattle.std.proofs.lemmas.List.{length-map}
use Rattle.std.proofs.lemmas.List.Elements.{filter_map-append}
use Rattle.std.proofs.lemmas.List.Sums.{length-filter, sum_by-cons}
use Rattle.std.proofs.lemmas.List.FromFn.{map-range_with_len_more, sum_by-map-range_with_len_more}

-- functions that agree make the same list
pub same_map : {X Y : Type 0} (f g : X → Y) → ((x : X) → f x ≡ g x) → (xs : List X) → map f xs ≡ map g xs
same_map f g same [] = refl
same_map {X} {Y} f g same (x ∷ xs) =
    ap (λ (y : Y). y ∷ map f xs) (same x) ∙ ap (λ (ys : List Y). g x ∷ ys) (same_map f g same xs)

-- a function after a function
pub map_twice : {X Y Z : Type 0} (f : X → Y) (g : Y → Z) → (xs : List X) → map g (map f xs) ≡ map (λ (x : X). g (f x)) xs
map_twice f g [] = refl
map_twice {X} {Y} {Z} f g (x ∷ xs) = ap (λ (zs : List Z). g (f x) ∷ zs) (map_twice f g xs)

-- what passes among the images are the images of what passes
mapped_first : {X Y : Type 0} (f : X → Y) (p : Y → Bool) (x : X) (xs : List X) (b : Bool) → p (f x) ≡ b → filter p (map f xs) ≡ map f (filter (λ (y : X). p (f y)) xs)
    → filter p (map f (x ∷ xs)) ≡ map f (filter (λ (y : X). p (f y)) (x ∷ xs))
mapped_first {X} {Y} f p x xs true here rest = rw here (ap (λ (ys : List Y). f x ∷ ys) rest)
mapped_first f p x xs false here rest = rw here rest

pub filter_mapped : {X Y : Type 0} (f : X → Y) (p : Y → Bool) → (xs : List X) → filter p (map f xs) ≡ map f (filter (λ (x : X). p (f x)) xs)
filter_mapped f p [] = refl
filter_mapped f p (x ∷ xs) = mapped_first f p x xs (p (f x)) refl (filter_mapped f p xs)

pub count_mapped : {X Y : Type 0} (f : X → Y) (p : Y → Bool) → (xs : List X) → count_by p (map f xs) ≡ count_by (λ (x : X). p (f x)) xs
count_mapped {X} f p xs =
    sym (length-filter p (map f xs)) ∙ ap length (filter_mapped f p xs)
    ∙ length-map (filter (λ (x : X). p (f x)) xs) f ∙ length-filter (λ (x : X). p (f x)) xs

-- what passes both of two tests
both_first : {X : Type 0} (p q r : X → Bool) (x : X) (xs : List X) (b c : Bool) → p x ≡ b → q x ≡ c → r x ≡ b && c → filter q (filter p xs) ≡ filter r xs
    → filter q (filter p (x ∷ xs)) ≡ filter r (x ∷ xs)
both_first {X} p q r x xs true true hp hq hr rest = rw (hp, hr) (rw hq (ap (λ (ys : List X). x ∷ ys) rest))
both_first p q r x xs true false hp hq hr rest = rw (hp, hr) (rw hq rest)
both_first p q r x xs false c hp hq hr rest = rw (hp, hr) rest

pub filter_both : {X : Type 0} (p q r : X → Bool) → ((x : X) → r x ≡ p x && q x) → (xs : List X) → filter q (filter p xs) ≡ filter r xs
filter_both p q r both [] = refl
filter_both p q r both (x ∷ xs) = both_first p q r x xs (p x) (q x) refl refl (both x) (filter_both p q r both xs)

-- ---- what a function gives of the numbers below a count

pub map_more : {X : Type 0} (f : ℕ → X) (n : ℕ) → map f (range_with_len 0 (n + 1)) ≡ map f (range_with_len 0 n) ++ f n ∷ []
map_more f n = map-range_with_len_more f 0 n n (omega arith)

pub sum_more : (f : ℕ → ℕ) (n : ℕ) → sum (map f (range_with_len 0 (n + 1))) ≡ sum (map f (range_with_len 0 n)) + f n
sum_more f n = sum_by-map-range_with_len_more (λ (x : ℕ). x) f 0 n n (omega arith)

abbrev pub somes : {X : Type 0} → List (Option X) → List X
somes {X} xs = filter_map (λ (x : Option X). x) xs

only : {X : Type 0} (o : Option X) → cons_option o [] ≡ option_to_list o
only None = refl
only (Some x) = refl

pub somes_more : {X : Type 0} (f : ℕ → Option X) (n : ℕ) → somes (map f (range_with_len 0 (n + 1))) ≡ somes (map f (range_with_len 0 n)) ++ option_to_list (f n)
somes_more {X} f n =
    ap somes (map_more f n) ∙ filter_map-append (λ (x : Option X). x) (map f (range_with_len 0 n)) (f n ∷ [])
    ∙ ap (λ (xs : List X). somes (map f (range_with_len 0 n)) ++ xs) (only (f n))

-- all of these options are there
pub record AreAll {X : Type 0} (f : ℕ → Option X) (from n : ℕ) (xs : List X) : Type 0 where
  pub one_each : length xs ≡ n
  pub each : (i : ℕ) → i < n → slice_get xs i ≡ f (from + i)

all_more : {X : Type 0} (f : ℕ → Option X) (from n : ℕ) (o : Option X) (xs : List X) → f from ≡ o → is_some o ≡ true → AreAll f (from + 1) n xs → AreAll f from (suc n) (cons_option o xs)
all_more f from n None xs e there rest = cc
all_more {X} f from n (Some x) xs e there rest = record { one_each = omega (arith, rest.one_each); each = at } where
  at : (i : ℕ) → i < suc n → slice_get (x ∷ xs) i ≡ f (from + i)
  at zero low = let here : from + 0 ≡ from = omega arith in sym (ap f here ∙ e)
  at (suc i) low = let later : from + 1 + i ≡ from + suc i = omega arith in rest.each i (omega arith) ∙ ap f later

-- where each option with a small cost is there, and the costs are small in all
pub somes_all : {X : Type 0} (most : ℕ) (f : ℕ → Option X) (cost : ℕ → ℕ) → ((i : ℕ) → cost i ≤ most → is_some (f i) ≡ true)
    → (n from : ℕ) → sum (map cost (range_with_len from n)) ≤ most → AreAll f from n (somes (map f (range_with_len from n)))
somes_all most f cost small zero from few = record { one_each = refl; each = λ i low. absurd (omega arith) }
somes_all most f cost small (suc n) from few =
    let parts = sum_by-cons (λ (x : ℕ). x) (cost from) (map cost (range_with_len (from + 1) n)) in
    all_more f from n (f from) _ refl (small from (omega arith)) (somes_all most f cost small n (from + 1) (omega arith))
