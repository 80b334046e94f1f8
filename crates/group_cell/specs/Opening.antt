-- What a table was opened with.
use Rattle.std.specs.Prelude.{ℕ, ◌<◌, ◌≤◌, List, [], length, slice_index_or}
use Rattle.flow_types.specs.Size.{Size}
use Rattle.group_search.specs.Image.{Image}

-- the cluster's size, the images of the table's blocks, and the words in which they were laid
pub record Opened : Type 0 where
  pub size : Size
  pub images : List Image
  pub words : List ℕ

abbrev pub unopened : Opened
unopened = record { size = record { nodes = 0; blocks = 0 }; images = []; words = [] }

-- each image has a record for each of 64 groups
abbrev pub HaveAllGroups : List Image → Type 0
HaveAllGroups images = (block : ℕ) → block < length images → 64 ≤ length (slice_index_or images block (record { choices = []; records = [] })).records
