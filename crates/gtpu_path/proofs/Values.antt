-- The table of the values of digits.
use Rattle.std.proofs.Common.{◌≡◌, ℕ, zero, suc, ◌<◌, ◌==◌, ◌&&◌, inl, inr, Bool, true, slice_index, Option, Some, None, refl, sym, ap, ◌∙◌, arith}
use Rattle.std.proofs.lemmas.Bool.{and_parts, cases_lt, eqb-true}
use Rattle.hex.specs.Hex.{hex_digit_value}
use Rattle.gtpu_path.specs.declared.hexadecimal.TheConstants.{VALUES}

-- what the table has for an octet: a digit's value, or 255
abbrev entry : Option ℕ → ℕ
entry (Some v) = v
entry None = 255

abbrev is_right : ℕ → Bool
is_right octet = slice_index VALUES octet == entry (hex_digit_value octet)

-- the test of the first octets, which computes
abbrev all_right : ℕ → Bool
all_right zero = true
all_right (suc n) = is_right n && all_right n

right_at : (n octet : ℕ) → all_right n ≡ true → octet < n → slice_index VALUES octet ≡ entry (hex_digit_value octet)
right_at zero octet h lt = absurd (omega arith)
right_at (suc n) octet h lt =
    let parts = and_parts (is_right n) (all_right n) h in
    elim (cases_lt octet n) [
      | inl below ↦ right_at n octet parts.1 below
      | inr top ↦
          let last : octet ≡ n = omega arith in
          rw last (eqb-true (slice_index VALUES n) (entry (hex_digit_value n)) parts.0)
    ]

some_entry : (found : Option ℕ) (v : ℕ) → v ≡ entry found → v < 16 → found ≡ Some v
some_entry (Some w) v same small = ap Some (sym same)
some_entry None v same small = absurd (omega (arith, same, small))

-- what the table has below 16 is the digit's value
pub value_of_entry : (octet v : ℕ) → octet < 256 → v ≡ slice_index VALUES octet → v < 16 → hex_digit_value octet ≡ Some v
value_of_entry octet v within is small =
    some_entry (hex_digit_value octet) v (is ∙ right_at 256 octet refl within) small
