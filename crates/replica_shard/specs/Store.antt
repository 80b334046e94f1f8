-- What a shard keeps: the images of the owner's blocks, and the list of the records that were taken since, one a turn. What it
-- says by them.
use Rattle.std.specs.Prelude.{ℕ, ◌≡◌, ◌+◌, ◌*◌, ◌/◌, ◌≤◌, ◌<◌, if◌then◌else◌, List, [], ◌∷◌, All, length, sum_by, Option, Some, None}
use Rattle.std.specs.List.{slice_get}
use Rattle.flow_types.specs.declared.record.Flow.{Flow}
use Rattle.flow_types.specs.Size.{Size, value_bits}
use Rattle.group_search.specs.declared.published.Publication.{Publication}
use Rattle.group_search.specs.declared.record.GroupRecord.{GroupRecord}
use Rattle.group_search.specs.Build.{IsBuild}
use Rattle.group_search.specs.Canon.{rows_in}
use Rattle.group_search.specs.Home.{Home}
use Rattle.group_search.specs.Image.{Image}
use Rattle.group_search.specs.Published.{count, records_of}
use Rattle.group_search.specs.Records.{AreHandled, HasNodes}
use Rattle.group_search.specs.Words.{HasBits}
use Rattle.replica_shard.specs.Shard.{ShardState, is_owned_block}

-- what a contract sees of a shard and of a list of records that were taken: the records name the cluster's blocks
pub record ShardStore : Type 0 where
  pub size : Size
  pub owner : ℕ
  pub images : List Image
  pub list : List Publication

-- ---- what it says

-- the image of a block, if it is one of the owner's: these stand in their order
abbrev pub image_in : ShardStore → (block : ℕ) → Option Image
image_in shard block = if is_owned_block shard.size shard.owner block then slice_get shard.images (block / shard.size.nodes) else None

-- the choices of an image that is there
abbrev pub choices_shown : Option Image → List ℕ
choices_shown None = []
choices_shown (Some image) = image.choices

-- the record of a group in an image that is there
abbrev pub record_shown : Option Image → (group : ℕ) → Option GroupRecord
record_shown None group = None
record_shown (Some image) group = slice_get image.records group

-- the last of these records, or else the one before them
abbrev pub last_or : Option GroupRecord → List GroupRecord → Option GroupRecord
last_or before [] = before
last_or before (content ∷ rest) = last_or (Some content) rest

-- what a shard says after these records: a group has the last that was taken for it, or else the one that its image shows; its
-- version is the number of those that were taken for it
abbrev pub shard_state_of : ShardStore → ShardState
shard_state_of shard = record {
  size = shard.size;
  owner = shard.owner;
  choices = λ (block : ℕ). choices_shown (image_in shard block);
  records = λ (at : Home). last_or (record_shown (image_in shard at.block) at.group) (records_of shard.list at);
  versions = λ (at : Home). count shard.list at;
  taken = length shard.list;
}

-- ---- how it is opened

-- these are the images of the owner's blocks among those of all blocks, in their order: blocks are dealt to the nodes in turn
pub record AreOwnersImages (size : Size) (owner : ℕ) (images own : List Image) : Type 0 where
  pub enough : size.blocks ≤ owner + size.nodes * length own
  pub each : (i : ℕ) → i < length own → slice_get own i ≡ slice_get images (owner + size.nodes * i)

-- there is an image for each block, each of at most 64 rows in all, which go to the cluster's nodes, and served records have
-- the cluster's value bits
pub record CanBeTables (size : Size) (images : List Image) : Type 0 where
  pub one_each : length images ≡ size.blocks
  pub few_rows : All (λ (image : Image). sum_by rows_in image.records ≤ 64) images
  pub bits : All (λ (image : Image). All (HasBits (value_bits size.nodes)) image.records) images
  pub in_cluster : All (λ (image : Image). All (HasNodes size.nodes) image.records) images

-- so it is with the images of a build of the cluster's flows
abbrev pub BuildsCanBeTables : Type 0
BuildsCanBeTables = (size : Size) (flows : List Flow) (images : List Image) → AreHandled size.nodes flows → IsBuild size flows images → CanBeTables size images
