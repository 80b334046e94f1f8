-- Texts of hexadecimal digits.
use Rattle.std.proofs.Common.{◌≡◌, ℕ, zero, suc, ◌+◌, ◌*◌, ◌/◌, ◌%◌, ◌<◌, ◌==◌, ◌&&◌, ◌⊎◌, inl, inr, Bool, true, nat_lt, if◌then◌else◌, List, [], ◌∷◌, length, map, drop, slice_index, Option, Some, None, Result, Ok, Err, refl, sym, ap, subst, ◌∙◌, arith}
use Rattle.std.specs.Prelude.{◌↔◌}
use Rattle.std.proofs.lemmas.Bool.{and_parts, cases_eq, cases_lt, eqb-true}
use Rattle.std.proofs.lemmas.List.{get_or-take, length-map, length-take-le}
use Rattle.std.specs.Result.{result_unwrap_or}
use Rattle.std.specs.Char.{to_ascii_lowercase}
use Rattle.hex.specs.Hex.{decode_of, decode_pairs, encode_with, hex_digit_value, is_hex_digit, lower_digits, value_at, pair_value, digit_or_error, ◌>>=◌}
use Rattle.hex.specs.declared.error.FromHexError.{FromHexError}
use Rattle.hex.specs.declared.error.FromHexError.TheVariants.{InvalidHexCharacter, OddLength}
use Rattle.hex.specs.declared.error.FromHexError.TheVariants as hex
use Rattle.gtpu_path.specs.declared.hexadecimal.HexRefused.{HexRefused}
use Rattle.gtpu_path.specs.declared.hexadecimal.HexRefused.TheVariants.{Odd, Digit, OutOfMemory}
use Rattle.hex.proofs.HexLemmas.{IsDigits-lower_digits, decode_of-encode_lower, decode_of-err, decode_of-even, decode_of-odd, decode_of-ok, length-encode_with}
use Rattle.hex.proofs.Pairs.{cons_byte, decode_pairs-ok_pair}
use Rattle.gtpu_path.specs.Hex.{IsFirstOther, hex_in, hex_text, in_small_letters, refusal_of, refused_by_hex}
use Rattle.gtpu_path.specs.Octets.{AreOctets}

-- a digit's value is the same with a small letter
value_of_small : (c : ℕ) → hex_digit_value (to_ascii_lowercase c) ≡ hex_digit_value c
value_of_small c = grind (arith)

-- ---- the digits of values

-- the small digit of a value below 16
abbrev digit_of : ℕ → ℕ
digit_of v = if nat_lt v 10 then v + 48 else v + 87

abbrev stands : ℕ → Bool
stands v = slice_index lower_digits v == digit_of v

abbrev all_stand : ℕ → Bool
all_stand zero = true
all_stand (suc n) = stands n && all_stand n

stands_at : (n v : ℕ) → all_stand n ≡ true → v < n → slice_index lower_digits v ≡ digit_of v
stands_at zero v h lt = absurd (omega arith)
stands_at (suc n) v h lt =
    let parts = and_parts (stands n) (all_stand n) h in
    elim (cases_lt v n) [
      | inl below ↦ stands_at n v parts.1 below
      | inr top ↦
          let e : v ≡ n = omega arith in
          rw e (eqb-true (slice_index lower_digits n) (digit_of n) parts.0)
    ]

-- the small letter of a digit is the digit of its value
small_digit : (c v : ℕ) → hex_digit_value c ≡ Some v → (to_ascii_lowercase c ≡ digit_of v) × (v < 16)
small_digit c v h =
    elim (cases_lt c 58) [
      | inl figure ↦ grind (arith, figure, h)
      | inr not_figure ↦
          elim (cases_lt c 71) [
            | inl capital ↦ grind (arith, not_figure, capital, h)
            | inr not_capital ↦ grind (arith, not_capital, h)
          ]
    ]

small_stands : (c v : ℕ) → hex_digit_value c ≡ Some v → (to_ascii_lowercase c ≡ slice_index lower_digits v) × (v < 16)
small_stands c v h =
    let digit = small_digit c v h in
    (digit.0 ∙ sym (stands_at 16 v refl digit.1), digit.1)

-- ---- read, then written

bind_ok : {A B : Type 0} (r : Result A FromHexError) (f : A → Result B FromHexError) (y : B)
    → (r >>= f) ≡ Ok y → (x : A) × (r ≡ Ok x) × (f x ≡ Ok y)
bind_ok (Ok x) f y h = (x, refl, h)
bind_ok (Err e) f y h = absurd cc

digit_read : (c i : ℕ) (o : Option ℕ) (v : ℕ) → digit_or_error c i o ≡ Ok v → o ≡ Some v
digit_read c i (Some w) v h = ap Some (ap (λ (r : Result ℕ FromHexError). result_unwrap_or r 0) h)
digit_read c i None v h = absurd cc

small_pairs : (i : ℕ) (text octets : List ℕ) → decode_pairs i text ≡ Ok octets
    → map to_ascii_lowercase text ≡ encode_with lower_digits octets
unfolding decode_pairs encode_with
small_pairs i [] octets h =
    let e : [] ≡ octets = ap (λ (r : Result (List ℕ) FromHexError). result_unwrap_or r []) h in
    rw (← e) refl
small_pairs i (a ∷ []) octets h = absurd cc
small_pairs i (a ∷ b ∷ rest) octets h =
    let whole = bind_ok (pair_value a b i) _ octets h in
    let upper = bind_ok (value_at a i) _ whole.0 whole.1 in
    let lower = bind_ok (value_at b (i + 1)) _ whole.0 upper.2 in
    let later = bind_ok (decode_pairs (i + 2) rest) _ octets whole.2 in
    let e : whole.0 ∷ later.0 ≡ octets = ap (λ (r : Result (List ℕ) FromHexError). result_unwrap_or r []) later.2 in
    let byte : upper.0 * 16 + lower.0 ≡ whole.0 = ap (λ (r : Result ℕ FromHexError). result_unwrap_or r 0) lower.2 in
    let first = small_stands a upper.0 (digit_read a i (hex_digit_value a) upper.0 upper.1) in
    let second = small_stands b lower.0 (digit_read b (i + 1) (hex_digit_value b) lower.0 lower.1) in
    let u = first.1 in
    let l = second.1 in
    let high : upper.0 ≡ whole.0 / 16 = omega (arith, byte, u, l) in
    let low : lower.0 ≡ whole.0 % 16 = omega (arith, byte, u, l) in
    let at_high : to_ascii_lowercase a ≡ slice_index lower_digits (whole.0 / 16) = first.0 ∙ ap (slice_index lower_digits) high in
    let at_low : to_ascii_lowercase b ≡ slice_index lower_digits (whole.0 % 16) = second.0 ∙ ap (slice_index lower_digits) low in
    rw (← e) (rw (at_high, at_low, small_pairs (i + 2) rest later.0 later.1) refl)

pub small_again : (text octets : List ℕ) → decode_of text ≡ Ok octets → in_small_letters text ≡ hex_text octets
small_again text octets h =
    let even = (decode_of-ok text octets h).0 in
    small_pairs 0 text octets (sym (decode_of-even text even) ∙ h)

-- ---- written, then read

read_pairs : (i : ℕ) (text octets : List ℕ) → AreOctets octets → map to_ascii_lowercase text ≡ encode_with lower_digits octets
    → decode_pairs i text ≡ Ok octets
unfolding decode_pairs encode_with
read_pairs i [] [] are h = refl
read_pairs i [] (o ∷ octets) are h = absurd cc
read_pairs i (a ∷ []) [] are h = absurd cc
read_pairs i (a ∷ []) (o ∷ octets) are h = absurd (cc h)
read_pairs i (a ∷ b ∷ rest) [] are h = absurd cc
read_pairs i (a ∷ b ∷ rest) (o ∷ octets) are h =
    let fits : o < 256 = are 0 in
    let high : o / 16 < 16 = omega arith in
    let low : o % 16 < 16 = omega arith in
    let first : to_ascii_lowercase a ≡ slice_index lower_digits (o / 16) = ap (λ (xs : List ℕ). slice_index xs 0) h in
    let second : to_ascii_lowercase b ≡ slice_index lower_digits (o % 16) = ap (λ (xs : List ℕ). slice_index xs 1) h in
    let later : map to_ascii_lowercase rest ≡ encode_with lower_digits octets = ap (λ (xs : List ℕ). drop 2 xs) h in
    let upper : hex_digit_value a ≡ Some (o / 16) = sym (value_of_small a) ∙ ap hex_digit_value first ∙ IsDigits-lower_digits (o / 16) high in
    let lower : hex_digit_value b ≡ Some (o % 16) = sym (value_of_small b) ∙ ap hex_digit_value second ∙ IsDigits-lower_digits (o % 16) low in
    let pair : pair_value a b i ≡ Ok (o / 16 * 16 + o % 16) = rw (upper, lower) refl in
    let ih = read_pairs (i + 2) rest octets (λ k. are (suc k)) later in
    let whole : o / 16 * 16 + o % 16 ≡ o = omega arith in
    decode_pairs-ok_pair i a b _ rest pair ∙ ap (cons_byte (o / 16 * 16 + o % 16)) ih ∙ ap (λ (v : ℕ). Ok (v ∷ octets)) whole

pub small_reads : (text octets : List ℕ) → AreOctets octets → in_small_letters text ≡ hex_text octets → decode_of text ≡ Ok octets
small_reads text octets are h =
    let written = length-encode_with lower_digits octets in
    let long : length text ≡ length (hex_text octets) = sym (length-map text to_ascii_lowercase) ∙ ap length h in
    decode_of-even text (omega (arith, written, long)) ∙ read_pairs 0 text octets are h

-- ---- what `hex_in` makes of that

ok_of_hex : (r : Result (List ℕ) FromHexError) (octets : List ℕ) → refused_by_hex r ≡ Ok octets → r ≡ Ok octets
ok_of_hex (Ok found) octets h = ap Ok (ap (λ (r : Result (List ℕ) HexRefused). result_unwrap_or r []) h)
ok_of_hex (Err error) octets h = absurd cc

pub texts_exactly : (text octets : List ℕ) → AreOctets octets → (hex_in text ≡ Ok octets) ↔ (in_small_letters text ≡ hex_text octets)
unfolding hex_in
texts_exactly text octets are = (
  λ read. small_again text octets (ok_of_hex (decode_of text) octets read),
  λ small. ap refused_by_hex (small_reads text octets are small),
)

-- octets are read from the text that writes them
pub written_is_read : (octets : List ℕ) → AreOctets octets → hex_in (hex_text octets) ≡ Ok octets
unfolding hex_in
written_is_read octets are = ap refused_by_hex (decode_of-encode_lower octets are)

-- a text that is read has digits alone
all_digits : (text octets : List ℕ) → hex_in text ≡ Ok octets → (at : ℕ) → at < length text → is_hex_digit (slice_index text at) ≡ true
unfolding hex_in
all_digits text octets read at there = (decode_of-ok text octets (ok_of_hex (decode_of text) octets read)).1 at 0 there

-- what a text is refused for
abbrev refusal_or : Result (List ℕ) HexRefused → HexRefused
refusal_or (Ok _) = OutOfMemory
refusal_or (Err refusal) = refusal

-- the place that is named
abbrev place_or : HexRefused → ℕ
place_or (Digit at) = at
place_or Odd = 0
place_or OutOfMemory = 0

-- a text of even length is refused for its first octet that is no digit
pub record NamesOther (text : List ℕ) (refusal : HexRefused) : Type 0 where
  pub even : length text % 2 ≡ 0
  pub at : ℕ
  pub names : refusal ≡ Digit at
  pub first : IsFirstOther text at

-- the error that is answered
abbrev error_or : Result (List ℕ) FromHexError → FromHexError
error_or (Ok _) = OddLength
error_or (Err error) = error

-- a refused text is odd, or has a first octet that is no digit
pub named : (text : List ℕ) (refusal : HexRefused) → hex_in text ≡ Err refusal
    → ((length text % 2 ≡ 1) × (refusal ≡ Odd)) ⊎ NamesOther text refusal
unfolding hex_in
named text refusal h = by_cause text refusal (decode_of text) refl h
  where
    by_cause : (text : List ℕ) (refusal : HexRefused) (r : Result (List ℕ) FromHexError) → decode_of text ≡ r → refused_by_hex r ≡ Err refusal
        → ((length text % 2 ≡ 1) × (refusal ≡ Odd)) ⊎ NamesOther text refusal
    by_cause text refusal (Ok octets) is h = absurd cc
    by_cause text refusal (Err error) is h =
        let same : refusal ≡ refusal_of error = ap refusal_or (sym h) in
        elim (decode_of-err text error is) [
          | inl odd ↦ inl (odd.0, same ∙ ap refusal_of odd.1)
          | inr other ↦
              elim (cases_eq (length text % 2) 1) [
                | inl odd ↦ cc (sym (ap error_or (sym is ∙ decode_of-odd text odd)) ∙ other.1)
                | inr even ↦
                    inr (record {
                      even = omega (arith, even);
                      at = other.0;
                      names = same ∙ ap refusal_of other.1 ∙ ap Digit (omega arith);
                      first = record { there = other.2; other = other.3; before = other.4 };
                    })
              ]
        ]

pub odd_exactly : (text : List ℕ) → (hex_in text ≡ Err Odd) ↔ (length text % 2 ≡ 1)
unfolding hex_in
odd_exactly text = (
  λ err. elim (named text Odd err) [
    | inl odd ↦ odd.0
    | inr other ↦ cc other.names
  ],
  λ odd. ap refused_by_hex (decode_of-odd text odd),
)

-- two places that are each the first octet that is no digit are one
not_before : (text : List ℕ) (at other : ℕ) → IsFirstOther text at → IsFirstOther text other → at < other → ⊥
not_before text at other first second lt =
    let there = second.there in
    let holds = second.before at 0 (rw (length-take-le other text (omega (arith, there))) lt) in
    let same = get_or-take other text at 0 lt in
    cc (sym first.other ∙ ap is_hex_digit (sym same) ∙ holds)

one_first : (text : List ℕ) (at other : ℕ) → IsFirstOther text at → IsFirstOther text other → at ≡ other
one_first text at other first second =
    elim (cases_lt at other) [
      | inl below ↦ absurd (not_before text at other first second below)
      | inr not_below ↦
          elim (cases_lt other at) [
            | inl above ↦ absurd (not_before text other at second first above)
            | inr same ↦ omega (arith, not_below, same)
          ]
    ]

digit_found : (text : List ℕ) (at : ℕ) → hex_in text ≡ Err (Digit at) → (length text % 2 ≡ 0) × IsFirstOther text at
digit_found text at err =
    elim (named text (Digit at) err) [
      | inl odd ↦ absurd (cc odd.1)
      | inr other ↦
          let place : at ≡ other.at = ap place_or other.names in
          (other.even, subst (λ (place : ℕ). IsFirstOther text place) (sym place) other.first)
    ]

pub digit_exactly : (text : List ℕ) (at : ℕ) → (hex_in text ≡ Err (Digit at)) ↔ ((length text % 2 ≡ 0) × IsFirstOther text at)
digit_exactly text at = (digit_found text at, λ found. refused text at (hex_in text) refl found.0 found.1)
  where
    refused : (text : List ℕ) (at : ℕ) (r : Result (List ℕ) HexRefused) → hex_in text ≡ r → length text % 2 ≡ 0 → IsFirstOther text at → hex_in text ≡ Err (Digit at)
    refused text at (Ok octets) is even first = absurd (cc (sym first.other ∙ all_digits text octets is at first.there))
    refused text at (Err refusal) is even first =
        elim (named text refusal is) [
          | inl odd ↦ let o = odd.0 in absurd (omega (arith, o, even))
          | inr other ↦ is ∙ ap Err (other.names ∙ ap Digit (one_first text other.at at other.first first))
        ]

pub never_memory : (text : List ℕ) → hex_in text ≡ Err OutOfMemory → ⊥
never_memory text err =
    elim (named text OutOfMemory err) [
      | inl odd ↦ cc odd.1
      | inr other ↦ cc other.names
    ]

-- ---- what the crate `hex` answers

-- an error of the crate, by its text
abbrev pub IsErrorOf : List ℕ → FromHexError → Type 0
IsErrorOf text error = (error ≡ hex.OutOfMemory) ⊎ (decode_of text ≡ Err error)

said : (text : List ℕ) (error : FromHexError) (refusal : HexRefused) → refusal_of error ≡ refusal → decode_of text ≡ Err error → hex_in text ≡ Err refusal
unfolding hex_in
said text error refusal same is = ap refused_by_hex is ∙ ap Err same

pub odd_of_error : (text : List ℕ) (error : FromHexError) → IsErrorOf text error → refusal_of error ≡ Odd → length text % 2 ≡ 1
odd_of_error text error cause same =
    elim cause [
      | inl memory ↦ absurd (cc (ap refusal_of (sym memory) ∙ same))
      | inr is ↦ (odd_exactly text).0 (said text error Odd same is)
    ]

pub digit_of_error : (text : List ℕ) (error : FromHexError) (at : ℕ) → IsErrorOf text error → refusal_of error ≡ Digit at
    → (length text % 2 ≡ 0) × IsFirstOther text at
digit_of_error text error at cause same =
    elim cause [
      | inl memory ↦ absurd (cc (ap refusal_of (sym memory) ∙ same))
      | inr is ↦ digit_found text at (said text error (Digit at) same is)
    ]

-- ---- two digits

pub pair_of_values : (a b i high low : ℕ) → hex_digit_value a ≡ Some high → hex_digit_value b ≡ Some low
    → pair_value a b i ≡ Ok (high * 16 + low)
pair_of_values a b i high low first second = rw (first, second) refl
