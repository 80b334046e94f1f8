-- What the build makes of the flows of one block, each where it stands.
use Rattle.std.specs.Prelude.{ℕ, ◌≡◌, ◌<◌, ◌≤◌, List, length, map, sum, Option, IfSome}
use Rattle.std.specs.List.{range_with_len, filter_map, slice_get}
use Rattle.block_layout.specs.Dealing.{choices_of}
use Rattle.block_layout.specs.Limits.{group_count, most_keys}
use Rattle.group_search.specs.Limits.{most_rows}
use Rattle.group_search.specs.declared.record.GroupRecord.{GroupRecord}
use Rattle.group_search.specs.Build.{PastLimit, rows_needed}
use Rattle.group_search.specs.Build.PastLimit.{TooManyFlows, TooManyRows}
use Rattle.group_search.specs.Canon.{canonical}
use Rattle.group_search.specs.Image.{Image}
use Rattle.setsep_build.specs.declared.placed.Placed.{Placed}
use Rattle.setsep_build.specs.declared.refused.BuildRefused.{BuildRefused}
use Rattle.setsep_build.specs.Refused.{named_limit}
use Rattle.setsep_build.specs.Placing.{gathered, groups_of, sizes_in}

-- the record of a group of the block
abbrev pub group_record : (bits : ℕ) → (groups : List ℕ) → List Placed → (group : ℕ) → Option GroupRecord
group_record bits groups all group = canonical bits (gathered groups group all)

-- the rows that a group of the block needs
abbrev pub needed_at : (bits : ℕ) → (groups : List ℕ) → List Placed → (group : ℕ) → ℕ
needed_at bits groups all group = rows_needed bits (gathered groups group all)

-- the records of the groups below `count` that have one, in their order
unfoldable pub records_below : (count bits : ℕ) → (groups : List ℕ) → List Placed → List GroupRecord
records_below count bits groups all = filter_map (λ (found : Option GroupRecord). found) (map (group_record bits groups all) (range_with_len 0 count))

-- the rows that the groups below `count` need in all
unfoldable pub needed_below : (count bits : ℕ) → (groups : List ℕ) → List Placed → ℕ
needed_below count bits groups all = sum (map (needed_at bits groups all) (range_with_len 0 count))

-- the choices of the block
unfoldable pub block_choices : List Placed → List ℕ
block_choices all = choices_of (sizes_in all)

-- the rows that the block needs
unfoldable pub needed_in : (bits : ℕ) → List Placed → ℕ
needed_in bits all = needed_below group_count bits (groups_of (block_choices all)) all

-- the block is within its limits, and this is its image
pub record IsImageOf (bits : ℕ) (all : List Placed) (image : Image) : Type 0 where
  pub few : length all ≤ most_keys
  pub few_rows : needed_in bits all ≤ most_rows
  pub choices : image.choices ≡ block_choices all
  pub one_each : length image.records ≡ group_count
  pub records : (group : ℕ) → group < group_count → slice_get image.records group ≡ group_record bits (groups_of (block_choices all)) all group

-- the block is past no limit
pub record IsWithinIn (bits : ℕ) (all : List Placed) : Type 0 where
  pub few : length all ≤ most_keys
  pub few_rows : needed_in bits all ≤ most_rows

-- the block has too many flows
pub record IsFull (block : ℕ) (all : List Placed) (named : ℕ) : Type 0 where
  pub named_is : named ≡ block
  pub many : most_keys < length all

-- the block's flows are few enough, and need too many rows
pub record NeedsRows (bits block : ℕ) (all : List Placed) (named needed : ℕ) : Type 0 where
  pub named_is : named ≡ block
  pub few : length all ≤ most_keys
  pub needed_is : needed ≡ needed_in bits all
  pub many : most_rows < needed

-- the block is past this limit
abbrev pub IsPastIn : (bits block : ℕ) → List Placed → PastLimit → Type 0
IsPastIn bits block all (TooManyFlows named) = IsFull block all named
IsPastIn bits block all (TooManyRows named needed) = NeedsRows bits block all named needed

-- the build of the block is refused for the limit that it is past
abbrev pub RefusesBlock : (bits block : ℕ) → List Placed → BuildRefused → Type 0
RefusesBlock bits block all why = IfSome (named_limit why) (IsPastIn bits block all)
