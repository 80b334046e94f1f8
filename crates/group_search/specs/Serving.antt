-- What it is for an index and an array to serve a group's entries at one bit of their nodes.
use Rattle.std.specs.Prelude.{◌≡◌, ◌<◌, ◌↔◌, ◌^◌, ◌+◌, ◌==◌, ◌&&◌, ℕ, zero, suc, IsTrue, Bool, List, [], ◌∷◌, Option, Some, None, bit_or, if◌then◌else◌}
use Rattle.std.specs.Int.{bit_at}
use Rattle.std.specs.List.{list_all, list_any}
use Rattle.hash_family.specs.Hash.{position}
use Rattle.group_search.specs.declared.entry.Entry.{Entry}
use Rattle.group_search.specs.declared.entry.Pair.{Pair}
use Rattle.group_search.specs.Limits.{index_count, position_count}

-- the array's bit at the entry's position under the index is this bit of the entry's node
abbrev pub reads : (index array bit : ℕ) → Entry → Bool
reads index array bit e = bit_at array (position e.pair index) == bit_at e.node bit

-- the index and the array serve the entries at this bit
abbrev pub serves : (index array bit : ℕ) → List Entry → Bool
serves index array bit entries = list_all (reads index array bit) entries

-- the entry stands at the position, and this bit of its node is 1
abbrev pub sets : (index place bit : ℕ) → Entry → Bool
sets index place bit e = (position e.pair index == place) && (bit_at e.node bit == 1)

-- the least index that serves, whatever the array; its array has 1 exactly where an entry whose bit is 1 stands
pub record IsLeast (bit : ℕ) (entries : List Entry) (pair : Pair) : Type 0 where
  pub in_range : pair.index < index_count
  pub serves_here : IsTrue (serves pair.index pair.array bit entries)
  pub none_below : (index array : ℕ) → index < pair.index → ¬ IsTrue (serves index array bit entries)
  pub octet : pair.array < 2 ^ position_count
  pub hits : (place : ℕ) → place < position_count → (bit_at pair.array place ≡ 1) ↔ IsTrue (list_any (sets pair.index place bit) entries)

-- no index serves, whatever the array
abbrev pub NoneServes : (bit : ℕ) → List Entry → Type 0
NoneServes bit entries = (index array : ℕ) → index < index_count → ¬ IsTrue (serves index array bit entries)

-- for each bit below `bits` some index serves with some array
abbrev pub IsSeparable : (bits : ℕ) → List Entry → Type 0
IsSeparable bits entries = (bit : ℕ) → bit < bits → (index : ℕ) × (array : ℕ) × (index < index_count) × IsTrue (serves index array bit entries)

-- the array that has 1 exactly where an entry whose bit is 1 stands
unfoldable pub array_of : (index bit : ℕ) → List Entry → ℕ
array_of index bit [] = 0
array_of index bit (e ∷ entries) =
    if bit_at e.node bit == 1 then bit_or (2 ^ position e.pair index) (array_of index bit entries) else array_of index bit entries

-- that array, where it serves
unfoldable pub array_serving : (index bit : ℕ) → List Entry → Option ℕ
array_serving index bit entries =
    if serves index (array_of index bit entries) bit entries then Some (array_of index bit entries) else None

-- the index with the array, or what comes after it
abbrev pub at_index : ℕ → Option ℕ → Option Pair → Option Pair
at_index index (Some array) later = Some (record { index = index; array = array })
at_index index None later = later

-- the first index from `index` on that serves, among a number of them
unfoldable pub first_serving : (count index bit : ℕ) → List Entry → Option Pair
first_serving zero index bit entries = None
first_serving (suc count) index bit entries =
    at_index index (array_serving index bit entries) (first_serving count (index + 1) bit entries)

-- the least pair, as a function: `IsLeast` holds of it, and it is `None` exactly where none serves
unfoldable pub least_of : (bit : ℕ) → List Entry → Option Pair
least_of bit entries = first_serving index_count 0 bit entries
