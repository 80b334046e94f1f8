-- What holds of each element, or of each two, of a list made from another.
use Rattle.std.proofs.Common.{◌≡◌, ◌<◌, Bool, true, false, List, [], ◌∷◌, length, map, refl, arith}
use Rattle.std.specs.Prelude.{All, AllPairs, filter}
use Rattle.std.proofs.lemmas.List.{length-map, get_or-map}
use Rattle.std.proofs.lemmas.List.Elements.{All-cons, All-head, All-tail}

-- a relation between images
pub all_pairs_mapped : {X Y : Type 0} (R : Y → Y → Type 0) (f : X → Y) (e : X) (xs : List X) → AllPairs (λ (a : X) (b : X). R (f a) (f b)) xs → AllPairs R (map f xs)
all_pairs_mapped R f e xs h = λ i j d low high.
    let long = length-map xs f in
    let inside_i : i < length xs = omega arith in
    let inside_j : j < length xs = omega arith in
    rw (get_or-map f xs i e d inside_i, get_or-map f xs j e d inside_j) (h i j e low inside_j)

-- what holds of each image
pub all_mapped : {X Y : Type 0} (P : Y → Type 0) (f : X → Y) (xs : List X) → All P (map f xs) → All (λ (x : X). P (f x)) xs
all_mapped P f xs h = λ k d low. rw (get_or-map f xs k d (f d) low) at (h k (f d) (omega (arith, length-map xs f)))

-- what holds of each element that passes
passed_first : {X : Type 0} (p : X → Bool) (P : X → Type 0) (x : X) (xs : List X) (b : Bool) → p x ≡ b → All P (filter p (x ∷ xs))
    → (All P (filter p xs) → All (λ (y : X). p y ≡ true → P y) xs) → All (λ (y : X). p y ≡ true → P y) (x ∷ xs)
passed_first {X} p P x xs true here h rest =
    let both : All P (x ∷ filter p xs) = rw here at h in
    All-cons (λ (y : X). p y ≡ true → P y) x xs (λ _. All-head P x (filter p xs) both) (rest (All-tail P x (filter p xs) both))
passed_first {X} p P x xs false here h rest =
    let others : All P (filter p xs) = rw here at h in
    All-cons (λ (y : X). p y ≡ true → P y) x xs (λ passes. cc) (rest others)

pub all_passed : {X : Type 0} (p : X → Bool) (P : X → Type 0) (xs : List X) → All P (filter p xs) → All (λ (x : X). p x ≡ true → P x) xs
all_passed p P [] h = λ k d low. absurd (omega arith)
all_passed p P (x ∷ xs) h = passed_first p P x xs (p x) refl h (all_passed p P xs)
