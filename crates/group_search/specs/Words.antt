-- A group's record as two words of 64 bits.
use Rattle.std.specs.Prelude.{⊤, ℕ, ◌≡◌, ◌<◌, ◌≤◌, ◌+◌, ◌*◌, ◌/◌, ◌%◌, ◌^◌, List, [], ◌∷◌, length, All, slice_index_or}
use Rattle.group_search.specs.declared.entry.Pair.{Pair}
use Rattle.group_search.specs.declared.record.GroupRecord.{GroupRecord}
use Rattle.group_search.specs.declared.record.GroupRecord.TheVariants as Record
use Rattle.group_search.specs.declared.words.Packed.{Packed}
use Rattle.group_search.specs.declared.words.Packed.TheVariants as Words
use Rattle.flow_types.specs.Size.{most_value_bits}
use Rattle.group_search.specs.Limits.{fewest_rows, most_rows}
use Rattle.group_search.specs.Served.{zero_pair}

-- a pair in 24 bits: the index in the lower 16, and the array above it
abbrev pub pair_bits : Pair → ℕ
pair_bits p = p.index + p.array * 2 ^ 16

-- two pairs in a word, the first in the lower 24 bits
abbrev pub pair_word : Pair → Pair → ℕ
pair_word first second = pair_bits first + pair_bits second * 2 ^ 24

-- the pair of a bit, zero past the last
abbrev pub pair_at : List Pair → ℕ → Pair
pair_at pairs bit = slice_index_or pairs bit zero_pair

abbrev pub served_words : List Pair → List ℕ
served_words pairs = pair_word (pair_at pairs 0) (pair_at pairs 1) ∷ pair_word (pair_at pairs 2) (pair_at pairs 3) ∷ []

abbrev pub fallback_words : (rows : ℕ) → List ℕ
fallback_words rows = (2 ^ 48 + rows) ∷ 0 ∷ []

abbrev pub words_of : GroupRecord → List ℕ
words_of (Record.Served pairs) = served_words pairs
words_of (Record.Fallback rows) = fallback_words (length rows)

-- the pair in the lower 24 bits of a number
abbrev pub pair_in : ℕ → Pair
pair_in bits = record { index = bits % 2 ^ 16; array = bits / 2 ^ 16 % 2 ^ 8 }

-- the four pairs in the bits of two words
abbrev pub pairs_in : (first second : ℕ) → List Pair
pairs_in first second = pair_in first ∷ pair_in (first / 2 ^ 24) ∷ pair_in second ∷ pair_in (second / 2 ^ 24) ∷ []

-- what the words keep of a record: the pairs, or the number of rows
abbrev pub packed_of : GroupRecord → Packed
packed_of (Record.Served pairs) = Words.Served pairs
packed_of (Record.Fallback rows) = Words.Fallback (length rows)

-- an index has 16 bits, and an array 8
pub record IsPair (p : Pair) : Type 0 where
  pub index : p.index < 2 ^ 16
  pub array : p.array < 2 ^ 8

-- the words are those of a number of pairs
pub record AreServedWords (bits : ℕ) (pairs : List Pair) (words : List ℕ) : Type 0 where
  pub one_each : length pairs ≡ bits
  pub enough : 1 ≤ bits
  pub few : bits ≤ most_value_bits
  pub sized : All IsPair pairs
  pub spelled : words ≡ served_words pairs

-- the words are those of a number of rows
pub record AreFallbackWords (rows : ℕ) (words : List ℕ) : Type 0 where
  pub enough : fewest_rows ≤ rows
  pub few : rows ≤ most_rows
  pub spelled : words ≡ fallback_words rows

-- a record with this number of value bits, or with rows, packs to these words, and this is what they keep of it
abbrev pub PacksTo : (bits : ℕ) → Packed → List ℕ → Type 0
PacksTo bits (Words.Served pairs) words = AreServedWords bits pairs words
PacksTo bits (Words.Fallback rows) words = AreFallbackWords rows words

-- the record has this number of value bits, or rows
abbrev pub HasBits : (bits : ℕ) → GroupRecord → Type 0
HasBits bits (Record.Served pairs) = length pairs ≡ bits
HasBits bits (Record.Fallback rows) = ⊤
