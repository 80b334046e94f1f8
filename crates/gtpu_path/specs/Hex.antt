-- Octets as text, two hexadecimal digits each.
use Rattle.std.specs.Prelude.{ℕ, ◌≡◌, ◌<◌, false, List, ◌++◌, codes, take, length, slice_index, Option, Some, None, Result, Ok, Err}
use Rattle.std.specs.Fmt.{decimal}
use Rattle.std.specs.List.{AllPass}
use Rattle.std.specs.Str.{str_to_ascii_lowercase}
use Rattle.hex.specs.Hex.{decode_of, encode_lower, is_hex_digit}
use Rattle.hex.specs.declared.error.FromHexError.{FromHexError}
use Rattle.hex.specs.declared.error.FromHexError.TheVariants as text
use Rattle.gtpu_path.specs.declared.hexadecimal.HexRefused.{HexRefused}
use Rattle.gtpu_path.specs.declared.hexadecimal.HexRefused.TheVariants.{Odd, Digit, OutOfMemory}

-- the digits of octets, with small letters
abbrev pub hex_text : List ℕ → List ℕ
hex_text octets = encode_lower octets

-- a text with small letters in the place of capital ones
abbrev pub in_small_letters : List ℕ → List ℕ
in_small_letters text = str_to_ascii_lowercase text

-- the octet of a text at this place is no hexadecimal digit, and each one before it is
pub record IsFirstOther (text : List ℕ) (at : ℕ) : Type 0 where
  pub there : at < length text
  pub other : is_hex_digit (slice_index text at) ≡ false
  pub before : AllPass is_hex_digit (take at text)

-- why a text is refused that the crate `hex` refuses
abbrev pub refusal_of : FromHexError → HexRefused
refusal_of text.OddLength = Odd
refusal_of (text.InvalidHexCharacter _ at) = Digit at
refusal_of text.InvalidStringLength = OutOfMemory
refusal_of text.OutOfMemory = OutOfMemory

abbrev pub refused_by_hex : Result (List ℕ) FromHexError → Result (List ℕ) HexRefused
refused_by_hex (Ok octets) = Ok octets
refused_by_hex (Err error) = Err (refusal_of error)

-- the octets that a text writes, or why it writes none
unfoldable pub hex_in : List ℕ → Result (List ℕ) HexRefused
hex_in text = refused_by_hex (decode_of text)

-- what is wrong with a text, and nothing at want of memory
abbrev pub named_refusal : HexRefused → Option HexRefused
named_refusal Odd = Some Odd
named_refusal (Digit at) = Some (Digit at)
named_refusal OutOfMemory = None

-- how a refusal is printed
abbrev pub refusal_text : HexRefused → List ℕ
refusal_text Odd = codes "an odd number of digits"
refusal_text (Digit at) = codes "no digit at place " ++ decimal at
refusal_text OutOfMemory = codes "out of memory"
