-- What is left to read of a number, digit by digit.
use Rattle.std.proofs.Common.{◌≡◌, ℕ, ◌+◌, ◌-◌, ◌*◌, ◌<◌, ◌≤◌, true, false, if◌then◌else◌, List, [], ◌∷◌, length, get_or, drop, Option, None, refl, arith, add-one, drop-cons}
use Rattle.std.proofs.lemmas.List.{drop_all}
use Rattle.std.proofs.lemmas.Bool.Decides.{nat_tests}
use Rattle.std.specs.Char.{digit_value, is_ascii_digit}
use Rattle.std.specs.Str.{all_ascii_digits}
use Rattle.std.specs.Str.Parse.{digits_value_after}
use Rattle.flow_types.specs.Text.{up_to}

-- the number whose first digits have the value n, and whose other digits are text
unfoldable pub number_after : ℕ → ℕ → List ℕ → Option ℕ
number_after max n text = if all_ascii_digits text then up_to max (digits_value_after 10 n text) else None

pub after_all : (max n : ℕ) → number_after max n [] ≡ up_to max n
unfolding number_after
after_all max n = refl

pub after_no_digit : (max n c : ℕ) (cs : List ℕ) → is_ascii_digit c ≡ false → number_after max n (c ∷ cs) ≡ None
unfolding number_after
after_no_digit max n c cs h = rw h refl

digit_is : (c : ℕ) → is_ascii_digit c ≡ true → digit_value c ≡ c - 48
digit_is c h = grind (arith, nat_tests)

pub after_digit : (max n c : ℕ) (cs : List ℕ) → is_ascii_digit c ≡ true → number_after max n (c ∷ cs) ≡ number_after max (n * 10 + (c - 48)) cs
unfolding number_after
after_digit max n c cs h = rw (h, digit_is c h) refl

too_much : (max n : ℕ) → max < n → up_to max n ≡ None
too_much max n h = grind (arith, nat_tests)

value_grows : (n : ℕ) (cs : List ℕ) → n ≤ digits_value_after 10 n cs
value_grows n [] = omega arith
value_grows n (c ∷ cs) = omega (arith, value_grows (n * 10 + digit_value c) cs)

pub after_too_much : (max n : ℕ) (cs : List ℕ) → max < n → number_after max n cs ≡ None
unfolding number_after
after_too_much max n cs h =
    elim (all_ascii_digits cs) as (λ b. (if b then up_to max (digits_value_after 10 n cs) else None) ≡ None) [
      | true ↦ too_much max _ (omega (arith, value_grows n cs))
      | false ↦ refl
    ]

-- the text from i on: its end, another character than a digit, and a digit
pub at_end : (max n i : ℕ) (text : List ℕ) → length text ≤ i → number_after max n (drop i text) ≡ up_to max n
at_end max n i text h = rw (drop_all i text h) (after_all max n)

pub at_no_digit : (max n i : ℕ) (text : List ℕ) → i < length text → is_ascii_digit (get_or text i 0) ≡ false → number_after max n (drop i text) ≡ None
at_no_digit max n i text h d = rw (drop-cons text i 0 h) (after_no_digit max n _ _ d)

pub at_digit : (max n i : ℕ) (text : List ℕ) → i < length text → is_ascii_digit (get_or text i 0) ≡ true → number_after max n (drop i text) ≡ number_after max (n * 10 + (get_or text i 0 - 48)) (drop (i + 1) text)
at_digit max n i text h d = rw (add-one, drop-cons text i 0 h) (after_digit max n _ _ d)

pub from_the_start : (max : ℕ) (text : List ℕ) → number_after max 0 text ≡ (if all_ascii_digits text then up_to max (digits_value_after 10 0 text) else None)
unfolding number_after
from_the_start max text = refl

pub ruleset reading = (at_end, at_no_digit, at_digit, after_too_much, from_the_start)
