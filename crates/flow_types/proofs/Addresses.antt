-- Which texts are addresses: what `address_text` writes, and no others.
use Rattle.std.proofs.Common.{◌≡◌, ℕ, ◌+◌, ◌*◌, ◌/◌, ◌%◌, ◌^◌, ◌<◌, ◌≤◌, true, false, List, [], ◌∷◌, Option, Some, None, refl, sym, ap, ◌∙◌, arith}
use Rattle.std.specs.Fmt.{decimal}
use Rattle.std.specs.Int.{IsInRange}
use Rattle.std.specs.List.{All, slice_split, join_with_byte}
use Rattle.std.specs.Str.{all_ascii_digits}
use Rattle.std.proofs.lemmas.Bool.Decides.{nat_tests}
use Rattle.std.proofs.lemmas.List.Elements.{All-cons}
use Rattle.std.proofs.lemmas.List.Splits.{slice_split_none, slice_split_at, join_with_byte-slice_split}
use Rattle.std.proofs.lemmas.Str.Parse.{tells_all_ascii_digits}
use Rattle.std.proofs.lemmas.Fmt.{digits_decimal}
use Rattle.flow_types.proofs.Numerals.{own, read_is_decimal, decimal_is_read}
use Rattle.flow_types.specs.Text.{is_dot, number_value, with_octet, four_octets, address_of_octets, address_value, octet_texts, address_text}

no_dot_digit : (c : ℕ) → IsInRange 48 57 c → is_dot c ≡ false
no_dot_digit c h = grind (arith, nat_tests)

-- four numbers of at most 255 make the address, and the parts write them
record AreOctetsOf (address : ℕ) (parts : List (List ℕ)) : Type 0 where
  first : ℕ
  second : ℕ
  third : ℕ
  fourth : ℕ
  first_fits : first ≤ 255
  second_fits : second ≤ 255
  third_fits : third ≤ 255
  fourth_fits : fourth ≤ 255
  made : address ≡ ((first * 256 + second) * 256 + third) * 256 + fourth
  texts : parts ≡ decimal first ∷ decimal second ∷ decimal third ∷ decimal fourth ∷ []

-- what stands above and below
record IsBelow (upper octet : Option ℕ) (n : ℕ) : Type 0 where
  above : ℕ
  under : ℕ
  upper_is : upper ≡ Some above
  octet_is : octet ≡ Some under
  made : above * 256 + under ≡ n

parted : (upper octet : Option ℕ) (n : ℕ) → with_octet upper octet ≡ Some n → IsBelow upper octet n
parted None octet n h = cc
parted (Some above) None n h = cc
parted (Some above) (Some under) n h = record { above = above; under = under; upper_is = refl; octet_is = refl; made = cc }

by_parts : (parts : List (List ℕ)) (address : ℕ) → address_of_octets parts ≡ Some address → AreOctetsOf address parts
by_parts [] address h = cc
by_parts (a ∷ []) address h = cc
by_parts (a ∷ b ∷ []) address h = cc
by_parts (a ∷ b ∷ c ∷ []) address h = cc
by_parts (a ∷ b ∷ c ∷ d ∷ e ∷ more) address h = cc
by_parts (a ∷ b ∷ c ∷ d ∷ []) address h =
    let last = parted (with_octet (with_octet (number_value 255 a) (number_value 255 b)) (number_value 255 c)) (number_value 255 d) address h in
    let middle = parted (with_octet (number_value 255 a) (number_value 255 b)) (number_value 255 c) last.above last.upper_is in
    let front = parted (number_value 255 a) (number_value 255 b) middle.above middle.upper_is in
    let first = read_is_decimal 255 front.above a front.upper_is in
    let second = read_is_decimal 255 front.under b front.octet_is in
    let third = read_is_decimal 255 middle.under c middle.octet_is in
    let fourth = read_is_decimal 255 last.under d last.octet_is in
    record {
      first = front.above;
      second = front.under;
      third = middle.under;
      fourth = last.under;
      first_fits = first.bounded;
      second_fits = second.bounded;
      third_fits = third.bounded;
      fourth_fits = fourth.bounded;
      made = omega arith;
      texts = cc (first.decimal (omega arith), second.decimal (omega arith), third.decimal (omega arith), fourth.decimal (omega arith));
    }

octets_of : (address : ℕ) (parts : List (List ℕ)) → AreOctetsOf address parts → parts ≡ octet_texts address
octets_of address parts are =
    let first : address / 2 ^ 24 ≡ are.first = omega arith in
    let second : address / 2 ^ 16 % 256 ≡ are.second = omega arith in
    let third : address / 2 ^ 8 % 256 ≡ are.third = omega arith in
    let fourth : address % 256 ≡ are.fourth = omega arith in
    rw (first, second, third, fourth) are.texts

pub read_has_32_bits : (address : ℕ) (text : List ℕ) → address_value text ≡ Some address → address < 2 ^ 32
unfolding address_value
read_has_32_bits address text h = let are = by_parts _ address h in omega arith

pub read_is_written : (address : ℕ) (text : List ℕ) → address_value text ≡ Some address → text ≡ address_text address
unfolding address_value address_text
read_is_written address text h =
    sym (join_with_byte-slice_split 46 text) ∙ ap (join_with_byte 46) (octets_of address _ (by_parts _ address h))

digits_have_no_dot : (text : List ℕ) → all_ascii_digits text ≡ true → All (λ c. is_dot c ≡ false) text
digits_have_no_dot [] h = λ k d few. absurd (omega arith)
digits_have_no_dot (c ∷ cs) h =
    let parts = tells_all_ascii_digits.parts c cs h in
    All-cons (λ x. is_dot x ≡ false) c cs (no_dot_digit c parts.0) (digits_have_no_dot cs parts.1)

decimal_has_no_dot : (n : ℕ) → n < 2 ^ 64 → All (λ c. is_dot c ≡ false) (decimal n)
decimal_has_no_dot n small = digits_have_no_dot (decimal n) (digits_decimal own n small)

split_of_joined : (w x y z : ℕ) → w < 2 ^ 64 → x < 2 ^ 64 → y < 2 ^ 64 → z < 2 ^ 64 → slice_split is_dot (join_with_byte 46 (decimal w ∷ decimal x ∷ decimal y ∷ decimal z ∷ [])) ≡ decimal w ∷ decimal x ∷ decimal y ∷ decimal z ∷ []
split_of_joined w x y z sw sx sy sz =
    slice_split_at is_dot (decimal w) 46 _ (decimal_has_no_dot w sw) refl
    ∙ ap (λ parts. decimal w ∷ parts) (slice_split_at is_dot (decimal x) 46 _ (decimal_has_no_dot x sx) refl
    ∙ ap (λ parts. decimal x ∷ parts) (slice_split_at is_dot (decimal y) 46 _ (decimal_has_no_dot y sy) refl
    ∙ ap (λ parts. decimal y ∷ parts) (slice_split_none is_dot (decimal z) (decimal_has_no_dot z sz))))

four_numbers : (w x y z : ℕ) → w ≤ 255 → x ≤ 255 → y ≤ 255 → z ≤ 255 → four_octets (decimal w) (decimal x) (decimal y) (decimal z) ≡ Some (((w * 256 + x) * 256 + y) * 256 + z)
four_numbers w x y z hw hx hy hz =
    rw (decimal_is_read 255 w (omega arith) hw, decimal_is_read 255 x (omega arith) hx, decimal_is_read 255 y (omega arith) hy, decimal_is_read 255 z (omega arith) hz) refl

pub written_is_read : (address : ℕ) → address < 2 ^ 32 → address_value (address_text address) ≡ Some address
unfolding address_value address_text
written_is_read address small =
    ap address_of_octets (split_of_joined (address / 2 ^ 24) (address / 2 ^ 16 % 256) (address / 2 ^ 8 % 256) (address % 256)
    (omega arith) (omega arith) (omega arith) (omega arith))
    ∙ four_numbers (address / 2 ^ 24) (address / 2 ^ 16 % 256) (address / 2 ^ 8 % 256) (address % 256) (omega arith) (omega arith) (omega arith) (omega arith)
    ∙ (let same : ((address / 2 ^ 24 * 256 + address / 2 ^ 16 % 256) * 256 + address / 2 ^ 8 % 256) * 256 + address % 256 ≡ address = omega arith in ap Some same)
