-- An octet with one more digit.
use Rattle.std.proofs.Common.{◌≡◌, ℕ, ◌+◌, ◌-◌, ◌*◌, ◌<◌, zero, suc, Bool, true, false, if◌then◌else◌, List, [], ◌∷◌, length, Option, Some, None, refl, sym, ap, ◌∙◌, ◌==◌, arith}
use Rattle.std.specs.Prelude.{◌&&◌, ◌||◌, not, nat_lt}
use Rattle.std.specs.Str.Parse.{digits_value}
use Rattle.std.proofs.lemmas.Bool.Decides.{nat_tests}
use Rattle.std.specs.Char.{is_ascii_digit}
use Rattle.std.specs.Str.{all_ascii_digits}
use Rattle.flow_types.specs.Octet.{octet_with}
use Rattle.flow_types.specs.Text.{number_value, up_to}
use Rattle.flow_types.proofs.Reading.{number_after, after_all, after_digit, after_no_digit, after_too_much}

not_zero : (n : ℕ) → 0 < n → (n == 0) ≡ false
not_zero n h = grind (arith, nat_tests)

positive : (c : ℕ) (cs : List ℕ) → nat_lt 0 (length (c ∷ cs)) ≡ true
positive c cs = grind (arith, nat_tests)

-- after a digit other than 0 the others are a number's
goes_on : (n : ℕ) (cs : List ℕ) → 0 < n → octet_with (Some n) cs ≡ number_after 255 n cs
unfolding octet_with number_after
goes_on n [] h = refl
goes_on n (c ∷ cs) h = rw (not_zero n h) refl

pub after_zero : (c : ℕ) (cs : List ℕ) → octet_with (Some 0) (c ∷ cs) ≡ None
unfolding octet_with
after_zero c cs = refl

pub no_digit : (octet : Option ℕ) (c : ℕ) (cs : List ℕ) → is_ascii_digit c ≡ false → octet_with octet (c ∷ cs) ≡ None
unfolding octet_with number_value
no_digit None c cs h = rw (positive c cs, h) refl
no_digit (Some zero) c cs h = after_zero c cs
no_digit (Some (suc n)) c cs h = goes_on (suc n) (c ∷ cs) (omega arith) ∙ after_no_digit 255 (suc n) c cs h

pub too_much : (n c : ℕ) (cs : List ℕ) → 255 < n * 10 + (c - 48) → octet_with (Some n) (c ∷ cs) ≡ None
too_much zero c cs h = after_zero c cs
too_much (suc n) c cs h = goes_on (suc n) (c ∷ cs) (omega arith) ∙ by (is_ascii_digit c) refl
  where
    by : (b : Bool) → is_ascii_digit c ≡ b → number_after 255 (suc n) (c ∷ cs) ≡ None
    by true d = after_digit 255 (suc n) c cs d ∙ after_too_much 255 (suc n * 10 + (c - 48)) cs h
    by false d = after_no_digit 255 (suc n) c cs d

pub one_more : (n c : ℕ) (cs : List ℕ) → 0 < n → is_ascii_digit c ≡ true → octet_with (Some n) (c ∷ cs) ≡ octet_with (Some (n * 10 + (c - 48))) cs
one_more n c cs some d = goes_on n (c ∷ cs) some ∙ after_digit 255 n c cs d ∙ sym (goes_on (n * 10 + (c - 48)) cs (omega arith))

-- a text that begins with a digit, without a leading zero
whole : (c : ℕ) (cs : List ℕ) → is_ascii_digit c ≡ true → (length (c ∷ cs) == 1 || not (c == 48)) ≡ true → number_value 255 (c ∷ cs) ≡ number_after 255 0 (c ∷ cs)
unfolding number_value number_after
whole c cs d h = rw (positive c cs, d, h) (by (all_ascii_digits cs))
  where
    by : (b : Bool) → ◌≡◌ {A = Option ℕ} (if (b && true) then up_to 255 (digits_value 10 (c ∷ cs)) else None) (if b then up_to 255 (digits_value 10 (c ∷ cs)) else None)
    by true = refl
    by false = refl

leading_zero : (c d : ℕ) (ds : List ℕ) → c ≡ 48 → number_value 255 (c ∷ d ∷ ds) ≡ None
unfolding number_value
leading_zero c d ds h = grind (arith, nat_tests)

pub first : (c : ℕ) (cs : List ℕ) → is_ascii_digit c ≡ true → octet_with None (c ∷ cs) ≡ octet_with (Some (c - 48)) cs
unfolding octet_with
first c [] d =
    let same : 0 * 10 + (c - 48) ≡ c - 48 = omega arith in
    whole c [] d refl ∙ after_digit 255 0 c [] d ∙ after_all 255 (0 * 10 + (c - 48)) ∙ ap (up_to 255) same
first c (e ∷ es) d = by (c == 48) refl
  where
    by : (b : Bool) → (c == 48) ≡ b → number_value 255 (c ∷ e ∷ es) ≡ octet_with (Some (c - 48)) (e ∷ es)
    by true is =
        let zero_digit : c ≡ 48 = grind (arith, nat_tests) in
        let none : 0 ≡ c - 48 = omega arith in
        leading_zero c e es zero_digit ∙ sym (after_zero e es) ∙ ap (λ n. octet_with (Some n) (e ∷ es)) none
    by false is =
        let some : 0 < c - 48 = grind (arith, nat_tests) in
        let same : 0 * 10 + (c - 48) ≡ c - 48 = omega arith in
        let allowed : (length (c ∷ e ∷ es) == 1 || not (c == 48)) ≡ true = grind (arith, nat_tests) in
        whole c (e ∷ es) d allowed ∙ after_digit 255 0 c (e ∷ es) d ∙ ap (λ n. number_after 255 n (e ∷ es)) same ∙ sym (goes_on (c - 48) (e ∷ es) some)

pub ruleset digits = (no_digit, too_much, one_more, after_zero, first)
