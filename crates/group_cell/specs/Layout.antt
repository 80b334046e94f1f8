-- Where the words of a table stand. A block has two words for each of its row places, and then for each of its groups
-- the sequence word and the data words.
use Rattle.std.specs.Prelude.{ℕ, ◌+◌, ◌-◌, ◌*◌, ◌/◌, ◌%◌, ◌^◌, List, [], ◌∷◌, slice_index}
use Rattle.block_layout.specs.Limits.{group_count}
use Rattle.group_search.specs.Home.{Home}
use Rattle.group_search.specs.Limits.{most_rows}
use Rattle.group_cell.specs.declared.view.Address.{Address}

abbrev pub home_of : Address → Home
home_of a = record { block = a.block; group = a.group }

abbrev pub address : Home → Address
address at = record { block = at.block; group = at.group }

-- how many data words a group has
abbrev pub data_words : ℕ
data_words = 2

-- their numbers
abbrev pub data_numbers : List ℕ
data_numbers = 0 ∷ 1 ∷ []

-- how many words of a block are its places'; they come first
abbrev pub row_words : ℕ
row_words = 2 * most_rows

-- how many words a block has
abbrev pub block_words : ℕ
block_words = row_words + group_count * (1 + data_words)

-- the two words of a place
abbrev pub low_word : (block place : ℕ) → ℕ
low_word block place = block_words * block + 2 * place

abbrev pub high_word : (block place : ℕ) → ℕ
high_word block place = block_words * block + 2 * place + 1

abbrev pub sequence_word : Home → ℕ
sequence_word at = block_words * at.block + row_words + (1 + data_words) * at.group

abbrev pub data_word : Home → ℕ → ℕ
data_word at j = sequence_word at + 1 + j

-- the group of a sequence word
abbrev pub home_of_word : (word : ℕ) → Home
home_of_word word = record { block = word / block_words; group = (word % block_words - row_words) / (1 + data_words) }

abbrev pub low : List ℕ → (block place : ℕ) → ℕ
low words block place = slice_index words (low_word block place)

abbrev pub high : List ℕ → (block place : ℕ) → ℕ
high words block place = slice_index words (high_word block place)

abbrev pub place_words : List ℕ → (block place : ℕ) → List ℕ
place_words words block place = low words block place ∷ high words block place ∷ []

abbrev pub sequence : List ℕ → Home → ℕ
sequence words at = slice_index words (sequence_word at)

abbrev pub datum : List ℕ → Home → ℕ → ℕ
datum words at j = slice_index words (data_word at j)

-- in the second word of a place: 0 where the place is free, and else one more than its group
abbrev pub tag : ℕ → ℕ
tag word = word / 2 ^ 48 % 2 ^ 7
