-- Elements of lists that are set, and what a function makes of them.
use Rattle.std.proofs.Common.{◌≡◌, ◌≢◌, ◌∙◌, ◌<◌, ℕ, zero, suc, List, [], ◌∷◌, ◌++◌, length, map, take, drop, get_or, set, Option, Some, refl, sym, ap, arith, ◌⊎◌, inl, inr, ⊎_elim}
use Rattle.std.specs.List.{slice_get}
use Rattle.std.proofs.lemmas.Bool.{cases_eq}
use Rattle.std.proofs.lemmas.List.{get_or-set_other, length-set, map-set}
use Rattle.std.proofs.lemmas.Option.{get_or_from_slice_get, same_Some, slice_get-map, slice_get_within, unwrap_or-slice_get}
use Rattle.std.specs.Option.{option_map, unwrap_or}
use Rattle.std.proofs.Math.Seq.{take-append_seam}
use Rattle.packet_path.proofs.Asking.{set-elsewhere, set-here}

pub all-new : {A : Type 0} (old new : List A) (many : ℕ) → length new ≡ many → take many (new ++ drop (length new) old) ≡ new
all-new old new many is = ap (λ (n : ℕ). take n (new ++ drop (length new) old)) (sym is) ∙ take-append_seam new (drop (length new) old)

module _ {A B : Type 0} (f : A → B) where
  pub map-there : (xs : List A) (i : ℕ) (x : A) → slice_get xs i ≡ Some x → slice_get (map f xs) i ≡ Some (f x)
  map-there xs i x there = slice_get-map f xs i ∙ ap (λ (o : Option A). option_map f o) there

  -- lists are alike where their elements are
  pub map-alike : (xs ys : List A) → length xs ≡ length ys → ((i : ℕ) (x y : A) → slice_get xs i ≡ Some x → slice_get ys i ≡ Some y → f x ≡ f y) → map f xs ≡ map f ys
  map-alike [] [] many alike = refl
  map-alike [] (y ∷ ys) many alike = absurd (omega (arith, many))
  map-alike (x ∷ xs) [] many alike = absurd (omega (arith, many))
  map-alike (x ∷ xs) (y ∷ ys) many alike =
      λ k. alike 0 x y refl refl k ∷ map-alike xs ys (omega (arith, many)) (λ i a b there here. alike (suc i) a b there here) k

  pub made-same : (xs ys : List A) (i : ℕ) (d : B) → slice_get xs i ≡ slice_get ys i → get_or (map f xs) i d ≡ get_or (map f ys) i d
  made-same xs ys i d same =
      sym (unwrap_or-slice_get (map f xs) i d)
      ∙ ap (λ (o : Option B). unwrap_or o d) (slice_get-map f xs i ∙ ap (λ (o : Option A). option_map f o) same ∙ sym (slice_get-map f ys i))
      ∙ unwrap_or-slice_get (map f ys) i d

  module _ (xs : List A) (i : ℕ) (old new : A) (there : slice_get xs i ≡ Some old) where
    low : i < length xs
    low = slice_get_within xs i old there

    -- an element is set to another of which the function makes the same
    pub map-kept : f new ≡ f old → map f (set xs i new) ≡ map f xs
    map-kept same = map-alike (set xs i new) xs (length-set xs i new)
        (λ j x y at was.
        ⊎_elim
        (λ (is : j ≡ i).
        let new_is : new ≡ x = same_Some new x (sym (set-here xs i new low) ∙ ap (slice_get (set xs i new)) (sym is) ∙ at) in
        let old_is : old ≡ y = same_Some old y (sym there ∙ ap (slice_get xs) (sym is) ∙ was) in
        ap f (sym new_is) ∙ same ∙ ap f old_is)
        (λ (apart : j ≢ i). ap f (same_Some x y (sym at ∙ set-elsewhere xs i j new apart ∙ was)))
        (cases_eq j i))

    pub made-here : (d : B) → get_or (map f (set xs i new)) i d ≡ f new
    made-here d = get_or_from_slice_get (map f (set xs i new)) i (f new) d (map-there (set xs i new) i new (set-here xs i new low))

    pub made-before : (d : B) → get_or (map f xs) i d ≡ f old
    made-before d = get_or_from_slice_get (map f xs) i (f old) d (map-there xs i old there)

    pub made-elsewhere : (d : B) (j : ℕ) → j ≢ i → get_or (map f (set xs i new)) j d ≡ get_or (map f xs) j d
    made-elsewhere d j apart = ap (λ (ys : List B). get_or ys j d) (map-set f xs i new) ∙ get_or-set_other (map f xs) i j (f new) d apart

-- ---- one element more

pub slice_get-append : {A : Type 0} (xs : List A) (x : A) (i : ℕ) (y : A) → slice_get (xs ++ x ∷ []) i ≡ Some y → (slice_get xs i ≡ Some y) ⊎ ((i ≡ length xs) × (x ≡ y))
slice_get-append [] x zero y is = inr (refl, same_Some x y is)
slice_get-append [] x (suc i) y is = absurd (cc)
slice_get-append (a ∷ xs) x zero y is = inl is
slice_get-append (a ∷ xs) x (suc i) y is =
    ⊎_elim
    (λ (here : slice_get xs i ≡ Some y). inl here)
    (λ (end : (i ≡ length xs) × (x ≡ y)). inr (ap suc end.0, end.1))
    (slice_get-append xs x i y is)
