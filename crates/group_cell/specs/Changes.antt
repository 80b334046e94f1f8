-- What a change of words leaves of a group.
use Rattle.std.specs.Prelude.{◌≡◌, ◌⊎◌, ℕ, ◌+◌, ◌<◌, List}
use Rattle.group_search.specs.Home.{Home}
use Rattle.group_cell.specs.Layout.{data_words, low, high, sequence, datum, tag}

-- the data words and the rows of a group are the same
pub record SameGroup (at : Home) (words words' : List ℕ) : Type 0 where
  pub data_words : (j : ℕ) → j < data_words → datum words' at j ≡ datum words at j
  pub rows : (k : ℕ) → k < 64 → (tag (high words at.block k) ≡ at.group + 1) ⊎ (tag (high words' at.block k) ≡ at.group + 1)
      → (high words' at.block k ≡ high words at.block k) × (low words' at.block k ≡ low words at.block k)

pub record Untouched (at : Home) (words words' : List ℕ) : Type 0 where
  pub version : sequence words' at ≡ sequence words at
  pub group : SameGroup at words words'
