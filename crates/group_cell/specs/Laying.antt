-- How the words of a table are laid before it is opened, block by block.
use Rattle.std.specs.Prelude.{◌≡◌, ◌≢◌, ℕ, ◌+◌, ◌*◌, ◌<◌, ◌≤◌, List, [], ◌∷◌, length, slice_index_or, All}
use Rattle.flow_types.specs.Size.{value_bits}
use Rattle.group_search.specs.declared.record.GroupRecord.{GroupRecord}
use Rattle.group_search.specs.Canon.{rows_in}
use Rattle.group_search.specs.Home.{Home}
use Rattle.group_search.specs.Image.{Image}
use Rattle.group_search.specs.Published.{opening_record}
use Rattle.group_search.specs.Words.{HasBits}
use Rattle.group_cell.specs.Changes.{Untouched}
use Rattle.group_cell.specs.Layout.{block_words, sequence}
use Rattle.group_cell.specs.Opening.{HaveAllGroups, Opened}
use Rattle.group_search.specs.Records.{HasNodes}
use Rattle.group_cell.specs.Rule.{Holds, RowsStand}
use Rattle.group_cell.specs.Seating.{AreOwners, places_of}

-- the group of the block that is laid, whose words stand at the front
abbrev pub in_front : (group : ℕ) → Home
in_front group = record { block = 0; group = group }

-- the group has version 0 and its record
pub record IsLaid (words owners : List ℕ) (at : Home) (content : GroupRecord) : Type 0 where
  pub version : sequence words at ≡ 0
  pub holds : (nodes : ℕ) → HasBits (value_bits nodes) content → HasNodes nodes content → Holds nodes words at content
  pub counted : places_of (at.group + 1) owners ≡ rows_in content

-- the group has version 0, and no places
pub record IsBare (words owners : List ℕ) (at : Home) : Type 0 where
  pub version : sequence words at ≡ 0
  pub rows : RowsStand words at []
  pub counted : places_of (at.group + 1) owners ≡ 0

-- all groups but one are as before
pub record LeavesOthers (at : Home) (words words' owners owners' : List ℕ) : Type 0 where
  pub wide : length words' ≡ length words
  pub groups : (other : Home) → other.group < 64 → other ≢ at → Untouched other words words'
  pub places : (o : ℕ) → o ≢ 0 → o ≢ at.group + 1 → places_of o owners' ≡ places_of o owners

-- the block's groups are laid
pub record IsBlockLaid (words owners : List ℕ) (image : Image) : Type 0 where
  pub width : length words ≡ block_words
  pub all : 64 ≤ length image.records
  pub owners_of : AreOwners owners words 0
  pub groups : (group : ℕ) → group < 64 → IsLaid words owners (in_front group) (opening_record (image ∷ []) (in_front group))

-- the blocks of these images are laid
pub record AreLaid (words : List ℕ) (owners : List (List ℕ)) (images : List Image) : Type 0 where
  pub wide : length words ≡ block_words * length images
  pub one_each : length owners ≡ length images
  pub all : HaveAllGroups images
  pub owners_of : (block : ℕ) → block < length images → AreOwners (slice_index_or owners block []) words block
  pub groups : (at : Home) → at.block < length images → at.group < 64 → IsLaid words (slice_index_or owners at.block []) at (opening_record images at)

-- the opening's images are laid in its words, and it has a block; the opening records have the cluster's value bits, and
-- their rows go to the cluster's nodes
pub record IsPlanned (o : Opened) (owners : List (List ℕ)) : Type 0 where
  pub laid : AreLaid o.words owners o.images
  pub has_a_block : 0 < length o.images
  pub bits : All (λ (image : Image). All (HasBits (value_bits o.size.nodes)) image.records) o.images
  pub in_cluster : All (λ (image : Image). All (HasNodes o.size.nodes) image.records) o.images
