-- A text with more words after it.
use Rattle.std.proofs.Common.{ℕ, ◌≡◌, ◌∙◌, List, ◌++◌, ap, sym, append_assoc}
use Rattle.std.specs.List.{concat}
use Rattle.std.proofs.lemmas.List.Folds.{concat-append}

-- some words, and then more
pub more_words : (first more : List (List ℕ)) (start middle end : List ℕ) → middle ≡ start ++ concat first → end ≡ middle ++ concat more → end ≡ start ++ concat (first ++ more)
more_words first more start middle end written then =
    then ∙ ap (λ text. text ++ concat more) written ∙ append_assoc start (concat first) (concat more) ∙ ap (λ words. start ++ words) (sym (concat-append first more))
