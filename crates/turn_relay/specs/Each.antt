-- Relations over lists.
use Rattle.std.specs.Prelude.{ℕ, ◌+◌, ◌≡◌, List, [], ◌∷◌, Some}
use Rattle.std.specs.List.{slice_get}

-- it holds of each element before and after
abbrev pub Each : {A B : Type 0} → (A → B → Type 0) → List A → List B → Type 0
Each R [] [] = Unit {0}
Each R [] (y ∷ ys) = ⊥
Each R (x ∷ xs) [] = ⊥
Each R (x ∷ xs) (y ∷ ys) = R x y × Each R xs ys

-- it holds of each element
abbrev pub Every : {A : Type 0} → (A → Type 0) → List A → Type 0
Every P [] = Unit {0}
Every P (x ∷ xs) = P x × Every P xs

-- it holds of each index, counted from this one on, and its element
abbrev pub AllFrom : {A : Type 0} → (ℕ → A → Type 0) → (first : ℕ) → List A → Type 0
AllFrom P first [] = Unit {0}
AllFrom P first (x ∷ xs) = P first x × AllFrom P (first + 1) xs

-- there is an element at the index, and it holds of it
pub record HasAt {A : Type 0} (index : ℕ) (P : A → Type 0) (all : List A) : Type 0 where
  pub element : A
  pub there : slice_get all index ≡ Some element
  pub holds : P element

-- only the element at the index is another, and between the two it holds
pub record ChangesAt {A : Type 0} (index : ℕ) (R : A → A → Type 0) (before after : List A) : Type 0 where
  pub element : A
  pub there : slice_get before index ≡ Some element
  pub changed : A
  pub then : slice_get after index ≡ Some changed
  pub others : (other : ℕ) → (other ≡ index → ⊥) → slice_get after other ≡ slice_get before other
  pub holds : R element changed
