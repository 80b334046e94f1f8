-- Rows that are put into places, and what the writer's seat keeps of them.
use Rattle.std.proofs.Common.{◌≡◌, ℕ, zero, suc, ◌+◌, ◌*◌, ◌<◌, ◌≤◌, ◌≢◌, ◌⊎◌, inl, inr, ⊎_elim, Bool, cond, eqb, eq-eqb, ne_eqb, List, [], ◌∷◌, ◌++◌, length, get_or, set, refl, sym, ap, ◌∙◌, subst, arith, length-set, get_or-set_other, get_or-set_same}
use Rattle.std.proofs.lemmas.List.Sums.{sum_by-set, sum_by-cons}
use mathlib.Core.Logic.{dite}
use native.Mathlib.Decide.{ℕ_discrete}
use mathlib.Core.Option.{some, some-injective, some-ne-none}
use lib.ListN.{get_elem?}
use Rattle.atomic_table.proofs.Lists.{at_longer, at_last}
use Rattle.group_search.specs.declared.rows.Row.{Row}
use Rattle.group_search.specs.Home.{Home}
use Rattle.group_search.specs.RowWords.{SpellsRow}
use Rattle.group_cell.specs.Layout.{block_words, low_word, high_word, low, high, place_words, tag}
use Rattle.group_cell.specs.Rule.{IsRow, RowsStand}
use Rattle.group_cell.specs.Seating.{places_of, AreOwners}
use Rattle.group_cell.proofs.Groups.{tag_of_row}

none_count : (o : ℕ) (xs : List ℕ) → ((i : ℕ) → i < length xs → get_or xs i 0 ≢ o) → places_of o xs ≡ 0
none_count o [] none = refl
none_count o (x ∷ xs) none = sum_by-cons (λ y. cond (eqb y o) 1 0) x xs ∙ (ap (λ (b : Bool). cond b 1 0 + places_of o xs) (ne_eqb x o (none 0 (omega arith))) ∙ (let h = none_count o xs (λ i less. none (suc i) (omega arith)) in omega arith))

-- where some place has the tag, it is found
pub some_place : (o : ℕ) (xs : List ℕ) → 0 < places_of o xs → ((i : ℕ) → i < length xs → get_or xs i 0 ≢ o) → ⊥
some_place o xs more none = let e = none_count o xs none in omega arith

-- no place has the tag, so none is counted
pub none_left : (owners words : List ℕ) (block o : ℕ) → AreOwners owners words block → ((k : ℕ) → k < 64 → get_or owners k 0 ≢ o) → places_of o owners ≡ 0
none_left owners words block o t none = none_count o owners (λ i inside. none i (let e = t.all in omega arith))

-- a place's owner changes from a to b: the count of each other owner stays
module _ (a b i : ℕ) (xs : List ℕ) (inside : i < length xs) (is : get_or xs i 0 ≡ a) where
  changed : (o : ℕ) → places_of o (set xs i b) + cond {A = ℕ} (eqb (get_or xs i 0) o) 1 0 ≡ places_of o xs + cond {A = ℕ} (eqb b o) 1 0
  changed o = sum_by-set (λ x. cond (eqb x o) 1 0) xs i b 0 inside

  one_if : (x o : ℕ) → x ≡ o → cond {A = ℕ} (eqb x o) 1 0 ≡ 1
  one_if x o e = ap (λ (t : Bool). cond {A = ℕ} t 1 0) (eq-eqb x o e)

  none_if : (x o : ℕ) → x ≢ o → cond {A = ℕ} (eqb x o) 1 0 ≡ 0
  none_if x o n = ap (λ (t : Bool). cond {A = ℕ} t 1 0) (ne_eqb x o n)

  pub places_kept : (o : ℕ) → o ≢ a → o ≢ b → places_of o (set xs i b) ≡ places_of o xs
  places_kept o not_a not_b = let h = changed o in let p = none_if (get_or xs i 0) o (λ e. not_a (sym e ∙ is)) in let q = none_if b o (λ e. not_b (sym e)) in omega arith

  pub places_lost : a ≢ b → places_of a (set xs i b) + 1 ≡ places_of a xs
  places_lost apart = let h = changed a in let p = one_if (get_or xs i 0) a is in let q = none_if b a (λ e. apart (sym e)) in omega arith

  pub places_gained : a ≢ b → places_of b (set xs i b) ≡ places_of b xs + 1
  places_gained apart = let h = changed b in let p = none_if (get_or xs i 0) b (λ e. apart (sym is ∙ e)) in let q = one_if b b refl in omega arith

-- the owner of a place goes with the tag of its second word
pub owner_set : (owners words : List ℕ) (block k o n : ℕ) → k < 64 → o ≤ 64 → AreOwners owners words block → tag n ≡ o → AreOwners (set owners k o) (set words (high_word block k) n) block
owner_set owners words block k o n less small t is = let all = t.all in let wide = t.wide in record {
  all = length-set owners k o ∙ t.all;
  wide = let e = length-set words (high_word block k) n in omega arith;
  tags = λ i inside. dite (ℕ_discrete i k)
      (λ e. ap (λ (x : ℕ). get_or (set owners k o) x 0) e ∙ (get_or-set_same owners k o 0 (omega arith) ∙ (sym is ∙ (ap tag (sym (get_or-set_same words (high_word block k) n 0 (omega arith))) ∙ ap (λ (x : ℕ). tag (high (set words (high_word block k) n) block x)) (sym e)))))
      (λ other. get_or-set_other owners k i o 0 other ∙ (t.tags i inside ∙ ap tag (sym (get_or-set_other words (high_word block k) (high_word block i) n 0 (λ e. other (omega arith))))));
  known = λ i inside. dite (ℕ_discrete i k)
      (λ e. let same : get_or (set owners k o) i 0 ≡ o = ap (λ (x : ℕ). get_or (set owners k o) x 0) e ∙ get_or-set_same owners k o 0 (omega arith) in omega arith)
      (λ other. let same : get_or (set owners k o) i 0 ≡ get_or owners i 0 = get_or-set_other owners k i o 0 other in let before = t.known i inside in omega arith);
}

-- the first words of places have no tags
pub owners_low : (owners words : List ℕ) (block k n : ℕ) → AreOwners owners words block → AreOwners owners (set words (low_word block k) n) block
owners_low owners words block k n t = let wide = t.wide in record {
  all = t.all;
  wide = let e = length-set words (low_word block k) n in omega arith;
  tags = λ i inside. t.tags i inside ∙ ap tag (sym (get_or-set_other words (low_word block k) (high_word block i) n 0 (λ e. omega arith)));
  known = t.known;
}

-- words that differ elsewhere keep the owners
pub owners_on : (owners words words' : List ℕ) (block : ℕ) → length words' ≡ length words → ((k : ℕ) → k < 64 → high words' block k ≡ high words block k) → AreOwners owners words block → AreOwners owners words' block
owners_on owners words words' block same kept t = let wide = t.wide in record { all = t.all; wide = omega arith; tags = λ k less. t.tags k less ∙ ap tag (sym (kept k less)); known = t.known }

-- no place has the group's tag
pub no_rows : (owners words : List ℕ) (at : Home) → AreOwners owners words at.block → ((k : ℕ) → k < 64 → get_or owners k 0 ≢ at.group + 1) → RowsStand words at []
no_rows owners words at t none = record {
  place_of = λ i. 0;
  inside = λ i row is. absurd (some-ne-none row (sym is));
  holds = λ i row is. absurd (some-ne-none row (sym is));
  apart = λ i j x y is _ _. absurd (some-ne-none x (sym is));
  tagged = λ k less is. absurd (none k less (t.tags k less ∙ is));
}

-- a row of the list with one more is one of those before, or the last
row_of_more : (rows : List Row) (last x : Row) (i : ℕ) → IsRow (rows ++ last ∷ []) i x → IsRow rows i x ⊎ ((i ≡ length rows) × (last ≡ x))
row_of_more [] last x zero is = inr (refl, some-injective last x is)
row_of_more [] last x (suc i) is = absurd (some-ne-none x (sym is))
row_of_more (row ∷ rows) last x zero is = inl is
row_of_more (row ∷ rows) last x (suc i) is = ⊎_elim (λ (was : IsRow rows i x). inl was) (λ (now : (i ≡ length rows) × (last ≡ x)). inr ((let e = now.0 in omega arith), now.1)) (row_of_more rows last x i is)

row_before : (rows : List Row) (x : Row) (i : ℕ) → IsRow rows i x → i ≢ length rows
row_before [] x i is = absurd (some-ne-none x (sym is))
row_before (row ∷ rows) x zero is = λ e. omega arith
row_before (row ∷ rows) x (suc i) is = λ e. row_before rows x i is (omega arith)

-- one more row, in a free place
module _ (words : List ℕ) (at : Home) (k first second : ℕ) (row : Row) (less : k < 64) (wide : block_words * at.block + block_words ≤ length words) (free : tag (high words at.block k) ≡ 0)
    (spelled : SpellsRow at.group row (first ∷ second ∷ [])) where
  abbrev once : List ℕ
  once = set words (low_word at.block k) first

  abbrev after : List ℕ
  after = set once (high_word at.block k) second

  low_here : low after at.block k ≡ first
  low_here = get_or-set_other once (high_word at.block k) (low_word at.block k) second 0 (λ e. omega arith) ∙ get_or-set_same words (low_word at.block k) first 0 (omega arith)

  high_here : high after at.block k ≡ second
  high_here = let e = length-set words (low_word at.block k) first in get_or-set_same once (high_word at.block k) second 0 (omega arith)

  low_else : (i : ℕ) → i ≢ k → low after at.block i ≡ low words at.block i
  low_else i other = get_or-set_other once (high_word at.block k) (low_word at.block i) second 0 (λ e. omega arith) ∙ get_or-set_other words (low_word at.block k) (low_word at.block i) first 0 (λ e. other (omega arith))

  high_else : (i : ℕ) → i ≢ k → high after at.block i ≡ high words at.block i
  high_else i other = get_or-set_other once (high_word at.block k) (high_word at.block i) second 0 (λ e. other (omega arith)) ∙ get_or-set_other words (low_word at.block k) (high_word at.block i) first 0 (λ e. omega arith)

  place_here : place_words after at.block k ≡ first ∷ second ∷ []
  place_here = λ i. low_here i ∷ high_here i ∷ []

  place_else : (i : ℕ) → i ≢ k → place_words after at.block i ≡ place_words words at.block i
  place_else i other = λ j. low_else i other j ∷ high_else i other j ∷ []

  module _ (rows : List Row) (s : RowsStand words at rows) where
    abbrev place_now : (i : ℕ) → ℕ
    place_now i = cond (eqb i (length rows)) k (s.place_of i)

    place_last : (i : ℕ) → i ≡ length rows → place_now i ≡ k
    place_last i e = ap (λ (b : Bool). cond b k (s.place_of i)) (eq-eqb i (length rows) e)

    place_kept : (i : ℕ) (x : Row) → IsRow rows i x → place_now i ≡ s.place_of i
    place_kept i x is = ap (λ (b : Bool). cond b k (s.place_of i)) (ne_eqb i (length rows) (row_before rows x i is))

    -- the free place is no row's
    not_here : (i : ℕ) (x : Row) → IsRow rows i x → s.place_of i ≢ k
    not_here i x is e =
        let tagged = tag_of_row at.group x (low words at.block (s.place_of i)) (high words at.block (s.place_of i)) (s.holds i x is) in
        let none : tag (high words at.block (s.place_of i)) ≡ 0 = ap (λ (j : ℕ). tag (high words at.block j)) e ∙ free in omega arith

    still_inside : (i : ℕ) (x : Row) → IsRow (rows ++ row ∷ []) i x → place_now i < 64
    still_inside i x is = ⊎_elim
        (λ (was : IsRow rows i x). subst (λ (n : ℕ). n < 64) (sym (place_kept i x was)) (s.inside i x was))
        (λ (last : (i ≡ length rows) × (row ≡ x)). subst (λ (n : ℕ). n < 64) (sym (place_last i last.0)) less)
        (row_of_more rows row x i is)

    still_holds : (i : ℕ) (x : Row) → IsRow (rows ++ row ∷ []) i x → SpellsRow at.group x (place_words after at.block (place_now i))
    still_holds i x is = ⊎_elim
        (λ (was : IsRow rows i x). subst (λ (n : ℕ). SpellsRow at.group x (place_words after at.block n)) (sym (place_kept i x was))
        (subst (SpellsRow at.group x) (sym (place_else (s.place_of i) (not_here i x was))) (s.holds i x was)))
        (λ (last : (i ≡ length rows) × (row ≡ x)). subst (λ (n : ℕ). SpellsRow at.group x (place_words after at.block n)) (sym (place_last i last.0))
        (subst (SpellsRow at.group x) (sym place_here) (subst (λ (y : Row). SpellsRow at.group y (first ∷ second ∷ [])) last.1 spelled)))
        (row_of_more rows row x i is)

    still_apart : (i j : ℕ) (x y : Row) → IsRow (rows ++ row ∷ []) i x → IsRow (rows ++ row ∷ []) j y → place_now i ≡ place_now j → i ≡ j
    still_apart i j x y is_x is_y same = ⊎_elim
        (λ (a : IsRow rows i x). ⊎_elim
        (λ (b : IsRow rows j y). s.apart i j x y a b (sym (place_kept i x a) ∙ (same ∙ place_kept j y b)))
        (λ (b : (j ≡ length rows) × (row ≡ y)). absurd (not_here i x a (sym (place_kept i x a) ∙ (same ∙ place_last j b.0))))
        (row_of_more rows row y j is_y))
        (λ (a : (i ≡ length rows) × (row ≡ x)). ⊎_elim
        (λ (b : IsRow rows j y). absurd (not_here j y b (sym (place_kept j y b) ∙ (sym same ∙ place_last i a.0))))
        (λ (b : (j ≡ length rows) × (row ≡ y)). a.0 ∙ sym b.0)
        (row_of_more rows row y j is_y))
        (row_of_more rows row x i is_x)

    pub placed : RowsStand after at (rows ++ row ∷ [])
    placed = record {
      place_of = place_now;
      inside = still_inside;
      holds = still_holds;
      apart = still_apart;
      tagged = λ n inside is. dite (ℕ_discrete n k)
          (λ e. (length rows, row, at_last rows row (length rows) refl, place_last (length rows) refl ∙ sym e))
          (λ other. let t = s.tagged n inside (ap tag (sym (high_else n other)) ∙ is) in
          (t.0, t.1, at_longer rows (row ∷ []) t.0 t.1 t.2, place_kept t.0 t.1 t.2 ∙ t.3));
    }

-- the two words that spell a row, by their places in the list
pub spelled_items : (g : ℕ) (row : Row) (words : List ℕ) → SpellsRow g row words → SpellsRow g row (get_or words 0 0 ∷ get_or words 1 0 ∷ [])
spelled_items g row words s = subst (SpellsRow g row) (s.spelled ∙ ap (λ (ws : List ℕ). get_or ws 0 0 ∷ get_or ws 1 0 ∷ []) (sym s.spelled)) s
