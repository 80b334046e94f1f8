-- Sums over groups, with one group apart.
use Rattle.std.proofs.Common.{ℕ, zero, suc, ◌≡◌, ◌+◌, ◌<◌, ◌≤◌, Bool, true, false, not, List, ◌∷◌, map, sum, refl, arith}
use Rattle.std.specs.Prelude.{◌==◌, filter}
use Rattle.std.specs.List.{range_with_len}
use Rattle.std.proofs.lemmas.List.Sums.{sum_by-cons}

abbrev pub is_not : ℕ → ℕ → Bool
is_not group other = not (other == group)

abbrev pub sum_beside : (ℕ → ℕ) → (group from n : ℕ) → ℕ
sum_beside f group from n = sum (map f (filter (is_not group) (range_with_len from n)))

pub sum-cons : (x : ℕ) (xs : List ℕ) → sum (x ∷ xs) ≡ x + sum xs
sum-cons x xs = sum_by-cons (λ (y : ℕ). y) x xs

-- functions that are nowhere greater below a bound have no greater sum there
most_step : (f g : ℕ → ℕ) (group from : ℕ) (rest : List ℕ) (other : Bool) → is_not group from ≡ other → f from ≤ g from
    → sum (map f (filter (is_not group) rest)) ≤ sum (map g (filter (is_not group) rest))
    → sum (map f (filter (is_not group) (from ∷ rest))) ≤ sum (map g (filter (is_not group) (from ∷ rest)))
most_step f g group from rest true e least more =
    rw e (omega (arith, sum-cons (f from) (map f (filter (is_not group) rest)), sum-cons (g from) (map g (filter (is_not group) rest)), least, more))
most_step f g group from rest false e least more = rw e more

pub beside_most : (f g : ℕ → ℕ) (group n from : ℕ) → ((x : ℕ) → from ≤ x → x < from + n → f x ≤ g x) → sum_beside f group from n ≤ sum_beside g group from n
beside_most f g group zero from least = omega arith
beside_most f g group (suc n) from least =
    most_step f g group from (range_with_len (from + 1) n) _ refl (least from (omega arith) (omega arith))
    (beside_most f g group n (from + 1) (λ x low high. least x (omega arith) (omega arith)))
