-- Which texts are numbers: what `decimal` writes, and no others.
use Rattle.std.proofs.Common.{◌≡◌, ℕ, zero, suc, ◌^◌, ◌<◌, ◌≤◌, Bool, true, false, List, length, get_or, if◌then◌else◌, Option, Some, None, refl, sym, ap, ◌∙◌, arith}
use Rattle.std.specs.Fmt.{decimal}
use Rattle.std.specs.Str.{all_ascii_digits}
use Rattle.std.specs.Str.Parse.{digits_value}
use Rattle.std.proofs.lemmas.Bool.Decides.{nat_tests}
use Rattle.std.proofs.lemmas.Fmt.{decimal_digit, decimal_nonempty, first_decimal, digits_decimal, digits_value-decimal, decimal-digits_value}
use Rattle.std.proofs.lemmas.Str.Parse.{IsNumeralModel, numerals_by_value, tells_all_ascii_digits}
use Rattle.flow_types.specs.Text.{is_numeral, up_to, number_value}

pub own : IsNumeralModel (λ ds. all_ascii_digits ds ≡ true) (digits_value 10)
own = numerals_by_value _ tells_all_ascii_digits

-- what a numeral is, as facts
record IsNumeralText (text : List ℕ) : Type 0 where
  some : 0 < length text
  digits : all_ascii_digits text ≡ true
  no_zero : get_or text 0 0 ≡ 48 → length text ≡ 1

facts : (text : List ℕ) → is_numeral text ≡ true → IsNumeralText text
facts text h = record {
  some = grind (arith, nat_tests);
  digits = grind (arith, nat_tests);
  no_zero = λ z. grind (arith, nat_tests);
}

back : (text : List ℕ) → IsNumeralText text → is_numeral text ≡ true
back text h = grind (arith, nat_tests)

decimal_is : (n : ℕ) → n < 2 ^ 64 → IsNumeralText (decimal n)
decimal_is zero small = record {
  some = decimal_nonempty 0 small;
  digits = digits_decimal own 0 small;
  no_zero = λ _. ap length (decimal_digit 0 (omega arith));
}
decimal_is (suc n) small = record {
  some = decimal_nonempty (suc n) small;
  digits = digits_decimal own (suc n) small;
  no_zero = λ z. absurd (omega (arith, z, first_decimal (suc n) (omega arith) small));
}

chosen : (b : Bool) (o : Option ℕ) (n : ℕ) → (if b then o else None) ≡ Some n → (b ≡ true) × (o ≡ Some n)
chosen true o n h = (refl, h)
chosen false o n h = cc

within : (max v n : ℕ) → up_to max v ≡ Some n → (v ≡ n) × (v ≤ max)
within max v n h = (grind (arith, nat_tests), grind (arith, nat_tests))

not_above : (max n : ℕ) → n ≤ max → up_to max n ≡ Some n
not_above max n h = grind (arith, nat_tests)

-- a number as it is read: the one that the digits write
pub record IsRead (max n : ℕ) (text : List ℕ) : Type 0 where
  pub bounded : n ≤ max
  pub digits : all_ascii_digits text ≡ true
  pub decimal : max < 2 ^ 64 → text ≡ decimal n

pub read_is_decimal : (max n : ℕ) (text : List ℕ) → number_value max text ≡ Some n → IsRead max n text
unfolding number_value
read_is_decimal max n text h =
    let numeral = chosen (is_numeral text) (up_to max (digits_value 10 text)) n h in
    let value = within max (digits_value 10 text) n numeral.1 in
    let text_is = facts text numeral.0 in
    record {
      bounded = omega arith;
      digits = text_is.digits;
      decimal = λ small.
          sym (ap decimal (sym value.0)
          ∙ decimal-digits_value own text text_is.digits text_is.some text_is.no_zero (omega arith));
    }

pub decimal_is_read : (max n : ℕ) → max < 2 ^ 64 → n ≤ max → number_value max (decimal n) ≡ Some n
unfolding number_value
decimal_is_read max n small h =
    let m : n < 2 ^ 64 = omega arith in
    rw (back (decimal n) (decimal_is n m), digits_value-decimal own n m) (not_above max n h)
