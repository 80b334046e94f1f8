-- Sums over groups, with one group apart.
use Rattle.std.proofs.Common.{ℕ, zero, suc, ◌≡◌, ◌≢◌, ◌∙◌, ◌+◌, ◌<◌, ◌≤◌, Bool, true, false, not, List, ◌∷◌, map, sum, refl, sym, ap, arith, ⊎_elim}
use Rattle.std.specs.Prelude.{◌==◌, filter}
use Rattle.std.specs.List.{range_with_len}
use Rattle.std.proofs.lemmas.Bool.{cases_eq, eq-eqb, ne_eqb}
use Rattle.std.proofs.lemmas.List.FromFn.{sum_by-map-range_with_len_more}
use Rattle.std.proofs.lemmas.List.Sums.{sum_by-cons}

abbrev pub is_not : ℕ → ℕ → Bool
is_not group other = not (other == group)

abbrev pub sum_from : (ℕ → ℕ) → (from n : ℕ) → ℕ
sum_from f from n = sum (map f (range_with_len from n))

abbrev pub sum_beside : (ℕ → ℕ) → (group from n : ℕ) → ℕ
sum_beside f group from n = sum (map f (filter (is_not group) (range_with_len from n)))

pub sum-cons : (x : ℕ) (xs : List ℕ) → sum (x ∷ xs) ≡ x + sum xs
sum-cons x xs = sum_by-cons (λ (y : ℕ). y) x xs

-- of numbers past the group none is left out
none_left_out : (f : ℕ → ℕ) (group n from : ℕ) → group < from → sum_beside f group from n ≡ sum_from f from n
none_left_out f group zero from past = refl
none_left_out f group (suc n) from past =
    rw (ne_eqb from group (λ e. omega arith))
    (sum-cons (f from) (map f (filter (is_not group) (range_with_len (from + 1) n)))
    ∙ ap (λ (m : ℕ). f from + m) (none_left_out f group n (from + 1) (omega arith))
    ∙ sym (sum-cons (f from) (map f (range_with_len (from + 1) n))))

-- a sum is that of the other groups and the group's own
pub sum_apart : (f : ℕ → ℕ) (group n from : ℕ) → from ≤ group → group < from + n → sum_from f from n ≡ sum_beside f group from n + f group
sum_apart f group zero from low high = absurd (omega arith)
sum_apart f group (suc n) from low high =
    ⊎_elim
    (λ (same : from ≡ group).
    let rest = none_left_out f group n (from + 1) (omega arith) in
    let whole = sum-cons (f from) (map f (range_with_len (from + 1) n)) in
    let here : f from ≡ f group = ap f same in
    rw (eq-eqb from group same) (omega (arith, rest, whole, here)))
    (λ (other : from ≢ group).
    let rest = sum_apart f group n (from + 1) (omega arith) (omega arith) in
    let whole = sum-cons (f from) (map f (range_with_len (from + 1) n)) in
    let beside = sum-cons (f from) (map f (filter (is_not group) (range_with_len (from + 1) n))) in
    rw (ne_eqb from group other) (omega (arith, rest, whole, beside)))
    (cases_eq from group)

-- functions that agree at the other groups have one sum there
beside_step : (f g : ℕ → ℕ) (group from : ℕ) (rest : List ℕ) (other : Bool) → is_not group from ≡ other → ((x : ℕ) → x ≢ group → f x ≡ g x)
    → sum (map f (filter (is_not group) rest)) ≡ sum (map g (filter (is_not group) rest))
    → sum (map f (filter (is_not group) (from ∷ rest))) ≡ sum (map g (filter (is_not group) (from ∷ rest)))
beside_step f g group from rest true e agree same =
    let ne : from ≢ group = λ eq. cc (eq-eqb from group eq, e) in
    rw e
    (sum-cons (f from) (map f (filter (is_not group) rest)) ∙ ap (λ (m : ℕ). m + sum (map f (filter (is_not group) rest))) (agree from ne)
    ∙ ap (λ (m : ℕ). g from + m) same ∙ sym (sum-cons (g from) (map g (filter (is_not group) rest))))
beside_step f g group from rest false e agree same = rw e same

pub beside_same : (f g : ℕ → ℕ) (group n from : ℕ) → ((x : ℕ) → x ≢ group → f x ≡ g x) → sum_beside f group from n ≡ sum_beside g group from n
beside_same f g group zero from agree = refl
beside_same f g group (suc n) from agree =
    beside_step f g group from (range_with_len (from + 1) n) _ refl agree (beside_same f g group n (from + 1) agree)

-- functions that agree below a bound have one sum there
pub from_same : (f g : ℕ → ℕ) (n from : ℕ) → ((x : ℕ) → from ≤ x → x < from + n → f x ≡ g x) → sum_from f from n ≡ sum_from g from n
from_same f g zero from agree = refl
from_same f g (suc n) from agree =
    sum-cons (f from) (map f (range_with_len (from + 1) n))
    ∙ ap (λ (m : ℕ). m + sum_from f (from + 1) n) (agree from (omega arith) (omega arith))
    ∙ ap (λ (m : ℕ). g from + m) (from_same f g n (from + 1) (λ x low high. agree x (omega arith) (omega arith)))
    ∙ sym (sum-cons (g from) (map g (range_with_len (from + 1) n)))

-- the same of the other groups alone, below a bound
beside_below_step : (f g : ℕ → ℕ) (group from : ℕ) (rest : List ℕ) (other : Bool) → is_not group from ≡ other → f from ≡ g from
    → sum (map f (filter (is_not group) rest)) ≡ sum (map g (filter (is_not group) rest))
    → sum (map f (filter (is_not group) (from ∷ rest))) ≡ sum (map g (filter (is_not group) (from ∷ rest)))
beside_below_step f g group from rest true e agree same =
    rw e
    (sum-cons (f from) (map f (filter (is_not group) rest)) ∙ ap (λ (m : ℕ). m + sum (map f (filter (is_not group) rest))) agree
    ∙ ap (λ (m : ℕ). g from + m) same ∙ sym (sum-cons (g from) (map g (filter (is_not group) rest))))
beside_below_step f g group from rest false e agree same = rw e same

pub beside_below : (f g : ℕ → ℕ) (group n from : ℕ) → ((x : ℕ) → from ≤ x → x < from + n → f x ≡ g x) → sum_beside f group from n ≡ sum_beside g group from n
beside_below f g group zero from agree = refl
beside_below f g group (suc n) from agree =
    beside_below_step f g group from (range_with_len (from + 1) n) _ refl (agree from (omega arith) (omega arith))
    (beside_below f g group n (from + 1) (λ x low high. agree x (omega arith) (omega arith)))

-- no part is greater than the whole
pub part_of_sum : (f : ℕ → ℕ) (group n : ℕ) → group < n → f group ≤ sum_from f 0 n
part_of_sum f group n low = omega (arith, sum_apart f group n 0 (omega arith) (omega arith))

-- a sum of nothing
pub sum_of_none : (f : ℕ → ℕ) (n from : ℕ) → ((x : ℕ) → f x ≡ 0) → sum_from f from n ≡ 0
sum_of_none f zero from none = refl
sum_of_none f (suc n) from none = omega (arith, sum-cons (f from) (map f (range_with_len (from + 1) n)), none from, sum_of_none f n (from + 1) none)

-- one more number at the end
pub sum_more : (f : ℕ → ℕ) (n : ℕ) → sum_from f 0 (n + 1) ≡ sum_from f 0 n + f n
sum_more f n = sum_by-map-range_with_len_more (λ (x : ℕ). x) f 0 n n (omega arith)
