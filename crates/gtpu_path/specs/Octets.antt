-- Numbers in octets.
use Rattle.std.specs.Prelude.{ℕ, ◌<◌, List, drop, slice_index}
use Rattle.byteorder.specs.Endian.{big_bytes, big_number}

-- each of them is a number of 8 bits
abbrev pub AreOctets : List ℕ → Type 0
AreOctets octets = (place : ℕ) → slice_index octets place < 256

-- the octet at a place
abbrev pub octet_at : (place : ℕ) → List ℕ → ℕ
octet_at place octets = slice_index octets place

-- the number in two octets from a place on, and in four, the greatest octet first
abbrev pub two_at : (place : ℕ) → List ℕ → ℕ
two_at place octets = big_number 2 (drop place octets)

abbrev pub four_at : (place : ℕ) → List ℕ → ℕ
four_at place octets = big_number 4 (drop place octets)

-- a number in two octets, and in four, the greatest octet first
abbrev pub in_two : ℕ → List ℕ
in_two number = big_bytes 2 number

abbrev pub in_four : ℕ → List ℕ
in_four number = big_bytes 4 number
