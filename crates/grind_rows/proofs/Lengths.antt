-- How long texts are.
use Rattle.std.proofs.Common.{◌≡◌, ◌∙◌, suc, ◌+◌, ◌≤◌, ◌<◌, ◌^◌, ℕ, List, [], ◌∷◌, ◌++◌, length, codes, decimal, ap, arith, length-append}
use Rattle.std.specs.List.{concat}
use Rattle.std.proofs.lemmas.Fmt.{length-decimal-le}

-- a comma and a number of 64 bits have at most 21 octets
pub number_within : (old new : List ℕ) (number : ℕ) → number < 2 ^ 64 → new ≡ old ++ concat (codes "," ∷ decimal number ∷ []) → length new ≤ length old + 21
number_within old new number low is =
    let digits = length-decimal-le 20 number (omega arith) (omega arith) low in
    let parts : length new ≡ length old + suc (length (decimal number ++ [])) = ap length is ∙ length-append old _ in
    omega (arith, length-append (decimal number) [])

pub words_within : (old new words : List ℕ) → new ≡ old ++ concat (words ∷ []) → length new ≤ length old + length words
words_within old new words is =
    let parts : length new ≡ length old + length (words ++ []) = ap length is ∙ length-append old _ in
    omega (arith, length-append words [])
