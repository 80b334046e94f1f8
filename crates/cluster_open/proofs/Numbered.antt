-- Lists with one element for each number.
use Rattle.std.proofs.Common.{◌≡◌, ◌≢◌, ◌∙◌, ◌+◌, ◌<◌, ◌++◌, ◌∷◌, [], ℕ, List, length, map, get_or, set, ⊎_elim, sym, ap, arith}
use Rattle.std.proofs.lemmas.Bool.{cases_eq}
use Rattle.std.proofs.lemmas.List.{ext_get_or, get_or-set_other, get_or-set_same, length-set, map_push}
use Rattle.std.proofs.lemmas.List.FromFn.{get_or-map-range_with_len, length-map-range_with_len, map-range_with_len_more}
use Rattle.cluster_open.specs.Opened.{by_number}

module _ {X : Type 0} (count : ℕ) where
  pub numbered : (each : ℕ → X) → length (by_number count each) ≡ count
  numbered each = length-map-range_with_len each 0 count

  pub at_number : (each : ℕ → X) (i : ℕ) (d : X) → i < count → get_or (by_number count each) i d ≡ each i
  at_number each i d low = get_or-map-range_with_len each 0 count i i d low (omega arith)

  -- a list with the right element at each number
  pub is_numbered : (each : ℕ → X) (all : List X) (d : X) → length all ≡ count → ((i : ℕ) → i < count → get_or all i d ≡ each i) → all ≡ by_number count each
  is_numbered each all d long are =
      ext_get_or d all (by_number count each) (long ∙ sym (numbered each)) (λ i low. are i (omega (arith, long)) ∙ sym (at_number each i d (omega (arith, long))))

  pub same_numbered : (each other : ℕ → X) (d : X) → ((i : ℕ) → i < count → each i ≡ other i) → by_number count each ≡ by_number count other
  same_numbered each other d same = is_numbered other (by_number count each) d (numbered each) (λ i low. at_number each i d low ∙ same i low)

  -- where one element is another, it is set
  pub set_number : (each other : ℕ → X) (at : ℕ) (d : X) → ((i : ℕ) → i < count → i ≢ at → other i ≡ each i)
      → by_number count other ≡ set (by_number count each) at (other at)
  set_number each other at d same =
      sym (is_numbered other (set (by_number count each) at (other at)) d (length-set (by_number count each) at (other at) ∙ numbered each)
      (λ i low.
      ⊎_elim
      (λ (here : i ≡ at).
      ap (λ (n : ℕ). get_or (set (by_number count each) at (other at)) n d) here
      ∙ get_or-set_same (by_number count each) at (other at) d (omega (arith, numbered each)) ∙ ap other (sym here))
      (λ (away : i ≢ at). get_or-set_other (by_number count each) at i (other at) d away ∙ at_number each i d low ∙ sym (same i low away))
      (cases_eq i at)))

-- one more at the end, that says what the next one is to say
pub one_more : {X Y : Type 0} (say : X → Y) (each : ℕ → Y) (all : List X) (new : X) (count : ℕ) → map say all ≡ by_number count each → say new ≡ each count
    → map say (all ++ new ∷ []) ≡ by_number (count + 1) each
one_more say each all new count before here =
    map_push say all new ∙ ap (λ xs. xs ++ say new ∷ []) before ∙ ap (λ x. by_number count each ++ x ∷ []) here
    ∙ sym (map-range_with_len_more each 0 count count (omega arith))
