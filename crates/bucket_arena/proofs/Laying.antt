-- Lists that are laid down one after another, over empty ones.
use Rattle.std.specs.Prelude.{◌≡◌, ℕ, zero, suc, ◌+◌, ◌<◌, ◌≤◌, List, [], ◌∷◌, ◌++◌, length, get_or, set, replicate, refl}
use Rattle.std.proofs.Common.{sym, ◌∙◌, ap, arith, append_assoc, get_or-set_same}
use Rattle.std.proofs.lemmas.List.Sums.{sum_by-cons}
use Rattle.std.specs.List.{sum_by}

module _ {X : Type 0} where
  -- the first of the lists, and then empty ones
  abbrev pub laid : List (List X) → ℕ → List (List X)
  laid [] b = []
  laid (l ∷ ls) zero = [] ∷ laid ls zero
  laid (l ∷ ls) (suc b) = l ∷ laid ls b

  pub laid_none : (ls : List (List X)) → laid ls 0 ≡ replicate (length ls) []
  laid_none [] = refl
  laid_none (l ∷ ls) = ap (λ rest. [] ∷ rest) (laid_none ls)

  pub laid_all : (ls : List (List X)) → laid ls (length ls) ≡ ls
  laid_all [] = refl
  laid_all (l ∷ ls) = ap (λ rest. l ∷ rest) (laid_all ls)

  pub laid_here : (ls : List (List X)) (b : ℕ) → get_or (laid ls b) b [] ≡ []
  laid_here [] zero = refl
  laid_here [] (suc b) = refl
  laid_here (l ∷ ls) zero = refl
  laid_here (l ∷ ls) (suc b) = laid_here ls b

  pub laid_next : (ls : List (List X)) (b : ℕ) → set (laid ls b) b (get_or ls b []) ≡ laid ls (suc b)
  laid_next [] b = refl
  laid_next (l ∷ ls) zero = refl
  laid_next (l ∷ ls) (suc b) = ap (λ rest. l ∷ rest) (laid_next ls b)

  none_in : (ls : List (List X)) → sum_by length (laid ls 0) ≡ 0
  none_in [] = refl
  none_in (l ∷ ls) = omega (arith, none_in ls, sum_by-cons length [] (laid ls 0))

  -- the next list is among those that are missing
  pub laid_less : (ls : List (List X)) (b : ℕ) → sum_by length (laid ls b) + length (get_or ls b []) ≤ sum_by length ls
  laid_less [] zero = omega arith
  laid_less [] (suc b) = omega arith
  laid_less (l ∷ ls) zero = omega (arith, none_in ls, sum_by-cons length [] (laid ls 0), sum_by-cons length l ls)
  laid_less (l ∷ ls) (suc b) = omega (arith, laid_less ls b, sum_by-cons length l (laid ls b), sum_by-cons length l ls)

  pub laid_length : (ls : List (List X)) (b : ℕ) → length (laid ls b) ≡ length ls
  laid_length [] b = refl
  laid_length (l ∷ ls) zero = ap suc (laid_length ls zero)
  laid_length (l ∷ ls) (suc b) = ap suc (laid_length ls b)

  -- the same place written twice
  twice : (ls : List (List X)) (b : ℕ) (xs ys : List X) → set (set ls b xs) b ys ≡ set ls b ys
  twice [] b xs ys = refl
  twice (l ∷ ls) zero xs ys = refl
  twice (l ∷ ls) (suc b) xs ys = ap (λ rest. l ∷ rest) (twice ls b xs ys)

  -- an item goes from the head of what is left to the end of what stands
  pub one_on : (ls new : List (List X)) (b : ℕ) (x : X) (left rest : List X) → b < length ls → new ≡ set ls b (get_or ls b [] ++ x ∷ []) → left ≡ x ∷ rest
      → set new b (get_or new b [] ++ rest) ≡ set ls b (get_or ls b [] ++ left)
  one_on ls new b x left rest l wrote is =
      ap (λ n. set n b (get_or n b [] ++ rest)) wrote
      ∙ ap (λ xs. set (set ls b (get_or ls b [] ++ x ∷ [])) b (xs ++ rest)) (get_or-set_same ls b (get_or ls b [] ++ x ∷ []) [] l)
      ∙ twice ls b (get_or ls b [] ++ x ∷ []) ((get_or ls b [] ++ x ∷ []) ++ rest)
      ∙ ap (set ls b) (append_assoc (get_or ls b []) (x ∷ []) rest ∙ ap (λ xs. get_or ls b [] ++ xs) (sym is))

  -- the next list laid down
  pub laid_on : (ls now new : List (List X)) (b : ℕ) (xs : List X) → now ≡ laid ls b → new ≡ set now b (get_or now b [] ++ xs) → xs ≡ get_or ls b [] → new ≡ laid ls (b + 1)
  laid_on ls now new b xs is wrote here =
      let next : suc b ≡ b + 1 = omega arith in
      wrote ∙ ap (λ l. set l b (get_or l b [] ++ xs)) is ∙ ap (λ l. set (laid ls b) b (l ++ xs)) (laid_here ls b) ∙ ap (set (laid ls b) b) here ∙ laid_next ls b ∙ ap (laid ls) next

  -- where there are n lists, n are all of them
  pub laid_whole : (ls now : List (List X)) (n b : ℕ) → length ls ≡ n → b ≡ n → now ≡ laid ls b → now ≡ ls
  laid_whole ls now n b long end is = is ∙ ap (laid ls) (end ∙ sym long) ∙ laid_all ls

  pub laid_start : (ls now : List (List X)) (n : ℕ) → length ls ≡ n → now ≡ replicate n [] → now ≡ laid ls 0
  laid_start ls now n long is = is ∙ ap (λ k. replicate k []) (sym long) ∙ sym (laid_none ls)
