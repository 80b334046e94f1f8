-- What sixteen neighbouring indexes give a group's keys, side by side.
use Rattle.std.specs.Prelude.{ℕ, zero, suc, ◌+◌, ◌^◌, ◌==◌, Bool, List, [], ◌∷◌, Option, Some, None, map, bit_and, bit_or, if◌then◌else◌, filter}
use Rattle.std.specs.Int.{bit_at}
use Rattle.std.specs.List.{range_with_len}
use Rattle.hash_family.specs.Hash.{position}
use Rattle.hash_family.specs.declared.pairing.HashPair.{HashPair}
use Rattle.group_search.specs.declared.entry.Entry.{Entry}
use Rattle.group_search.specs.declared.entry.Pair.{Pair}
use Rattle.group_search.specs.Serving.{at_index}

-- what a function gives of the lanes 0 to 15
unfoldable pub lanes : {X : Type 0} → (ℕ → X) → List X
lanes f = map f (range_with_len 0 16)

-- the positions of all these pairs at the index, as a mask
unfoldable pub mask_of : (index : ℕ) → List HashPair → ℕ
mask_of index [] = 0
mask_of index (pair ∷ pairs) = bit_or (2 ^ position pair index) (mask_of index pairs)

-- two masks have no position in common
abbrev pub are_apart : (ones zeros : ℕ) → Bool
are_apart ones zeros = bit_and ones zeros == 0

-- the mask of the ones as the array, where no zero stands in it
abbrev pub array_between : (ones zeros : ℕ) → Option ℕ
array_between ones zeros = if are_apart ones zeros then Some ones else None

-- the first index from `index` on, among a number of them, at which no position has both a one and a zero
unfoldable pub first_between : (count index : ℕ) → (ones zeros : List HashPair) → Option Pair
first_between zero index ones zeros = None
first_between (suc count) index ones zeros =
    at_index index (array_between (mask_of index ones) (mask_of index zeros)) (first_between count (index + 1) ones zeros)

abbrev pub has_bit : (value bit : ℕ) → Entry → Bool
has_bit value bit e = bit_at e.node bit == value

abbrev pub entry_hashes : Entry → HashPair
entry_hashes e = e.pair

-- the hash pairs of the entries whose bit has this value
unfoldable pub pairs_with : (value bit : ℕ) → List Entry → List HashPair
pairs_with value bit entries = map entry_hashes (filter (has_bit value bit) entries)
