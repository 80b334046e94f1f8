-- The places of a block add up: those that are free or a group's own, and those of the other groups.
use Rattle.std.proofs.Common.{◌≡◌, ℕ, zero, suc, ◌+◌, ◌<◌, ◌≤◌, ◌≢◌, Bool, cond, if◌then◌else◌, eqb, eq-eqb, ne_eqb, List, [], ◌∷◌, length, get_or, refl, sym, ap, ◌∙◌, subst, arith}
use Rattle.std.proofs.lemmas.List.Sums.{sum_by-cons}
use mathlib.Core.Logic.{dite}
use native.Mathlib.Decide.{ℕ_discrete}
use Rattle.group_search.specs.declared.published.Publication.{Publication}
use Rattle.group_search.specs.Canon.{rows_in}
use Rattle.group_search.specs.Home.{Home}
use Rattle.group_cell.specs.Opening.{Opened}
use Rattle.group_cell.specs.declared.view.WriterView.{WriterView}
use Rattle.group_cell.specs.Rule.{IsIn, latest}
use Rattle.group_cell.specs.Seating.{Tallies, places_of}
use Rattle.group_cell.specs.Seats.{sum_beside, rows_beside, the_group}

abbrev total : (ℕ → ℕ) → ℕ → ℕ
total f zero = 0
total f (suc n) = total f n + f n

skips : (f : ℕ → ℕ) (one n : ℕ) → n ≡ one → sum_beside f one (suc n) ≡ sum_beside f one n
skips f one n e = let z : (if eqb n one then 0 else f n) ≡ 0 = ap (λ (b : Bool). if b then 0 else f n) (eq-eqb n one e) in omega arith

adds : (f : ℕ → ℕ) (one n : ℕ) → n ≢ one → sum_beside f one (suc n) ≡ sum_beside f one n + f n
adds f one n e = ap (λ (b : Bool). sum_beside f one n + (if b then 0 else f n)) (ne_eqb n one e)

before_one : (f : ℕ → ℕ) (one n : ℕ) → n ≤ one → sum_beside f one n ≡ total f n
before_one f one zero le = refl
before_one f one (suc n) le = let h = before_one f one n (omega arith) in let e = adds f one n (λ e. omega arith) in omega arith

-- all but one, and that one
beside_and_one : (f : ℕ → ℕ) (one n : ℕ) → one < n → sum_beside f one n + f one ≡ total f n
beside_and_one f one zero less = absurd (omega arith)
beside_and_one f one (suc n) less = dite (ℕ_discrete n one)
    (λ here. let h = before_one f one n (omega arith) in let e = skips f one n here in let same : f n ≡ f one = ap f here in omega arith)
    (λ other. let h = beside_and_one f one n (omega arith) in let e = adds f one n other in omega arith)

-- where the terms are the same
pub sum_beside-same : (f g : ℕ → ℕ) (one n : ℕ) → ((k : ℕ) → k < n → f k ≡ g k) → sum_beside f one n ≡ sum_beside g one n
sum_beside-same f g one zero same = refl
sum_beside-same f g one (suc n) same = dite (ℕ_discrete n one)
    (λ here. skips f one n here ∙ (sum_beside-same f g one n (λ k less. same k (omega arith)) ∙ sym (skips g one n here)))
    (λ other. let h = sum_beside-same f g one n (λ k less. same k (omega arith)) in let a = adds f one n other in let b = adds g one n other in let e = same n (omega arith) in omega arith)

total-add : (f h : ℕ → ℕ) (n : ℕ) → total (λ k. f k + h k) n ≡ total f n + total h n
total-add f h zero = refl
total-add f h (suc n) = let e = total-add f h n in omega arith

total_zero : (n : ℕ) → total (λ _. 0) n ≡ 0
total_zero zero = refl
total_zero (suc n) = let e = total_zero n in omega arith

abbrev is_tag : ℕ → ℕ → ℕ
is_tag x h = cond (eqb x (h + 1)) 1 0

tag_here : (x h : ℕ) → x ≡ h + 1 → is_tag x h ≡ 1
tag_here x h e = ap (λ (b : Bool). cond {A = ℕ} b 1 0) (eq-eqb x (h + 1) e)

tag_else : (x h : ℕ) → x ≢ h + 1 → is_tag x h ≡ 0
tag_else x h n = ap (λ (b : Bool). cond {A = ℕ} b 1 0) (ne_eqb x (h + 1) n)

free_tag : (x n : ℕ) → x ≡ 0 → total (is_tag x) n ≡ 0
free_tag x zero e = refl
free_tag x (suc n) e = let h = free_tag x n e in let z = tag_else x n (λ i. omega arith) in omega arith

late_tag : (x n : ℕ) → n < x → total (is_tag x) n ≡ 0
late_tag x zero less = refl
late_tag x (suc n) less = let h = late_tag x n (omega arith) in let z = tag_else x n (λ i. omega arith) in omega arith

one_tag : (x n : ℕ) → 0 < x → x ≤ n → total (is_tag x) n ≡ 1
one_tag x zero some le = absurd (omega arith)
one_tag x (suc n) more le = dite (ℕ_discrete x (n + 1))
    (λ here. let h = late_tag x n (omega arith) in let e = tag_here x n here in omega arith)
    (λ other. let h = one_tag x n more (omega arith) in let e = tag_else x n other in omega arith)

all_places : (xs : List ℕ) (n : ℕ) → ((i : ℕ) → i < length xs → get_or xs i 0 ≤ n) → places_of 0 xs + total (λ h. places_of (h + 1) xs) n ≡ length xs
all_places [] n small = let z : total (λ h. places_of (h + 1) []) n ≡ 0 = total_zero n in let y : places_of 0 [] ≡ 0 = refl in omega arith
all_places (x ∷ xs) n small =
    let h = all_places xs n (λ i less. small (suc i) (omega arith)) in
    let a : places_of 0 (x ∷ xs) ≡ cond {A = ℕ} (eqb x 0) 1 0 + places_of 0 xs = sum_by-cons (λ y. cond (eqb y 0) 1 0) x xs in
    let b : total (λ k. places_of (k + 1) (x ∷ xs)) n ≡ total (is_tag x) n + total (λ k. places_of (k + 1) xs) n =
    ap (λ (f : ℕ → ℕ). total f n) (λ i k. sum_by-cons (λ y. cond (eqb y (k + 1)) 1 0) x xs i) ∙ total-add (is_tag x) (λ k. places_of (k + 1) xs) n in
    let top : x ≤ n = small 0 (omega arith) in
    dite (ℕ_discrete x 0)
    (λ free. let e : cond {A = ℕ} (eqb x 0) 1 0 ≡ 1 = ap (λ (t : Bool). cond {A = ℕ} t 1 0) (eq-eqb x 0 free) in let z = free_tag x n free in omega arith)
    (λ taken. let e : cond {A = ℕ} (eqb x 0) 1 0 ≡ 0 = ap (λ (t : Bool). cond {A = ℕ} t 1 0) (ne_eqb x 0 taken) in let z = one_tag x n (omega arith) top in omega arith)

-- what is free or the group's own is all less the other groups' places
pub room_is : (xs : List ℕ) (g n : ℕ) → g < n → ((i : ℕ) → i < length xs → get_or xs i 0 ≤ n) → places_of 0 xs + places_of (g + 1) xs + sum_beside (λ h. places_of (h + 1) xs) g n ≡ length xs
room_is xs g n less small = let a = all_places xs n small in let b = beside_and_one (λ h. places_of (h + 1) xs) g n less in omega arith

-- as the rows of the block's other groups say it
pub room_beside : (opening : Opened) (ps : List Publication) (at : Home) (xs : List ℕ) → at.group < 64 → length xs ≡ 64 → ((i : ℕ) → i < 64 → get_or xs i 0 ≤ 64)
    → ((h : ℕ) → h < 64 → places_of (h + 1) xs ≡ rows_in (latest opening ps (the_group at.block h))) → places_of 0 xs + places_of (at.group + 1) xs + rows_beside opening ps at ≡ 64
unfolding rows_beside
room_beside opening ps at xs few all small counted =
    let a = room_is xs at.group 64 few (λ i less. small i (omega arith)) in
    let b = sum_beside-same (λ h. places_of (h + 1) xs) (λ h. rows_in (latest opening ps (the_group at.block h))) at.group 64 counted in omega arith

-- the room that the writer's seat has for the group
pub room_now : (w : WriterView) (owners : List (List ℕ)) (opening : Opened) (at : Home) → Tallies owners w → w.opening ≡ opening → IsIn opening at
    → places_of 0 (get_or owners at.block []) + places_of (at.group + 1) (get_or owners at.block []) + rows_beside opening w.published at ≡ 64
room_now w owners opening at t e inside =
    let in_w : IsIn w.opening at = subst (λ (o : Opened). IsIn o at) (sym e) inside in
    let placed = t.placed at.block in_w.block in
    subst (λ (o : Opened). places_of 0 (get_or owners at.block []) + places_of (at.group + 1) (get_or owners at.block []) + rows_beside o w.published at ≡ 64) e
    (room_beside w.opening w.published at (get_or owners at.block []) in_w.group placed.all placed.known (λ h less. t.counted (the_group at.block h) (record { block = in_w.block; group = less })))
