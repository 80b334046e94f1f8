-- Rows for the numbers below a count, one after the other.
use Rattle.std.proofs.Common.{◌≡◌, ◌∙◌, ◌+◌, ℕ, List, [], ◌∷◌, ◌++◌, ap, sym, map, append_assoc, arith}
use Rattle.std.specs.List.{concat, range_with_len}
use Rattle.std.proofs.lemmas.List.{append-nil}
use Rattle.std.proofs.lemmas.List.Folds.{concat-append}
use Rattle.std.proofs.lemmas.List.FromFn.{map-range_with_len_more}
use Rattle.grind_rows.specs.Input.{rows_below}

module _ (row : ℕ → List ℕ) where
  pub no_row : (text : List ℕ) → text ≡ text ++ rows_below 0 row
  no_row text = sym (append-nil text)

  pub next_row : (start middle end : List ℕ) (number : ℕ) → middle ≡ start ++ rows_below number row → end ≡ middle ++ row number → end ≡ start ++ rows_below (number + 1) row
  next_row start middle end number before then =
      let last : rows_below (number + 1) row ≡ rows_below number row ++ (row number ++ []) =
      ap concat (map-range_with_len_more row 0 number number (omega arith)) ∙ concat-append (map row (range_with_len 0 number)) (row number ∷ []) in
      then ∙ ap (λ text. text ++ row number) before ∙ append_assoc start (rows_below number row) (row number)
      ∙ ap (λ text. start ++ text) (ap (λ text. rows_below number row ++ text) (sym (append-nil (row number))) ∙ sym last)
