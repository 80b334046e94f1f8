-- The texts of numbers and of addresses.
use Rattle.std.specs.Prelude.{ℕ, ◌+◌, ◌*◌, ◌/◌, ◌%◌, ◌^◌, ◌==◌, ◌&&◌, ◌||◌, not, nat_lt, nat_le, Bool, if◌then◌else◌, List, [], ◌∷◌, length, slice_index, Option, Some, None}
use Rattle.std.specs.Str.{all_ascii_digits}
use Rattle.std.specs.Str.Parse.{digits_value}
use Rattle.std.specs.List.{slice_split, join_with_byte}
use Rattle.std.specs.Fmt.{decimal}

-- decimal digits, one or more, the first of them no 0 unless it stands alone
abbrev pub is_numeral : List ℕ → Bool
is_numeral text = nat_lt 0 (length text) && all_ascii_digits text && (length text == 1 || not (slice_index text 0 == 48))

-- a number where it is at most max
abbrev pub up_to : ℕ → ℕ → Option ℕ
up_to max n = if nat_le n max then Some n else None

-- the number that the text writes, where it is at most max
unfoldable pub number_value : ℕ → List ℕ → Option ℕ
number_value max text = if is_numeral text then up_to max (digits_value 10 text) else None

abbrev pub is_dot : ℕ → Bool
is_dot c = c == 46

-- a number, where there is one, with one more octet below it
abbrev pub with_octet : Option ℕ → Option ℕ → Option ℕ
with_octet None octet = None
with_octet (Some upper) None = None
with_octet (Some upper) (Some octet) = Some (upper * 256 + octet)

-- the address of four octets, the greatest first, each a number of at most 255
abbrev pub four_octets : List ℕ → List ℕ → List ℕ → List ℕ → Option ℕ
four_octets a b c d =
    with_octet (with_octet (with_octet (number_value 255 a) (number_value 255 b)) (number_value 255 c)) (number_value 255 d)

-- the address of just four octets
abbrev pub address_of_octets : List (List ℕ) → Option ℕ
address_of_octets (a ∷ b ∷ c ∷ d ∷ []) = four_octets a b c d
address_of_octets _ = None

-- the address that the text writes: its parts between dots are the octets
unfoldable pub address_value : List ℕ → Option ℕ
address_value text = address_of_octets (slice_split is_dot text)

-- the octets of an address, the greatest first, each written as a number
abbrev pub octet_texts : ℕ → List (List ℕ)
octet_texts address =
    decimal (address / 2 ^ 24) ∷ decimal (address / 2 ^ 16 % 256) ∷ decimal (address / 2 ^ 8 % 256) ∷ decimal (address % 256) ∷ []

-- the text of an address: its octets, joined by dots
unfoldable pub address_text : ℕ → List ℕ
address_text address = join_with_byte 46 (octet_texts address)
