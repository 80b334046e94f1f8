-- What stands at the places of a list.
use Rattle.std.proofs.Common.{◌≡◌, ◌≢◌, ℕ, zero, suc, List, [], ◌∷◌, length, map, take, Some, refl, ap, set, arith}
use Rattle.std.specs.List.{slice_get}
use lib.ListN.{get_or}

-- what stands at a place, put there again, changes nothing
pub set_same : {A : Type 0} (xs : List A) (i : ℕ) (x : A) → slice_get xs i ≡ Some x → set xs i x ≡ xs
set_same [] i x there = refl
set_same (first ∷ xs) zero x there = let same : x ≡ first = cc there in ap (λ z. z ∷ xs) same
set_same (first ∷ xs) (suc i) x there = ap (λ rest. first ∷ rest) (set_same xs i x there)

pub set_there : {A : Type 0} (xs : List A) (i : ℕ) (x y : A) → slice_get xs i ≡ Some x → slice_get (set xs i y) i ≡ Some y
set_there [] i x y there = absurd (cc there)
set_there (first ∷ xs) zero x y there = refl
set_there (first ∷ xs) (suc i) x y there = set_there xs i x y there

pub set_others : {A : Type 0} (xs : List A) (i j : ℕ) (y : A) → j ≢ i → slice_get (set xs i y) j ≡ slice_get xs j
set_others [] i j y other = refl
set_others (first ∷ xs) zero zero y other = absurd (other refl)
set_others (first ∷ xs) zero (suc j) y other = refl
set_others (first ∷ xs) (suc i) zero y other = refl
set_others (first ∷ xs) (suc i) (suc j) y other = set_others xs i j y (λ same. other (ap suc same))

pub read_there : {A : Type 0} (xs : List A) (i : ℕ) (x d : A) → slice_get xs i ≡ Some x → get_or xs i d ≡ x
read_there [] i x d there = absurd (cc there)
read_there (first ∷ xs) zero x d there = cc there
read_there (first ∷ xs) (suc i) x d there = read_there xs i x d there

-- the first of a list
pub take_there : {A : Type 0} (xs : List A) (n i : ℕ) (x : A) → slice_get (take n xs) i ≡ Some x → slice_get xs i ≡ Some x
take_there [] zero i x there = there
take_there [] (suc n) i x there = there
take_there (first ∷ xs) zero i x there = absurd (cc there)
take_there (first ∷ xs) (suc n) zero x there = there
take_there (first ∷ xs) (suc n) (suc i) x there = take_there xs n i x there

-- as many of one list as there are of the first of another
pub take_as_many : {A B : Type 0} (xs : List A) (ys : List B) (n : ℕ) → length xs ≡ length ys → take (length (take n xs)) ys ≡ take n ys
take_as_many [] [] zero many = refl
take_as_many [] [] (suc n) many = refl
take_as_many [] (y ∷ ys) n many = absurd (cc many)
take_as_many (x ∷ xs) [] n many = absurd (cc many)
take_as_many (x ∷ xs) (y ∷ ys) zero many = refl
take_as_many (x ∷ xs) (y ∷ ys) (suc n) many = ap (λ rest. y ∷ rest) (take_as_many xs ys n (omega (arith, many)))

pub map_first : {A B : Type 0} (f : A → B) (xs : List A) (n : ℕ) → take n (map f xs) ≡ map f (take n xs)
map_first f [] zero = refl
map_first f [] (suc n) = refl
map_first f (x ∷ xs) zero = refl
map_first f (x ∷ xs) (suc n) = ap (λ rest. f x ∷ rest) (map_first f xs n)
