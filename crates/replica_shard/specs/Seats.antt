-- What a contract sees of a shard and its seats.
use Rattle.std.specs.Prelude.{ℕ, List, map}
use Rattle.group_search.specs.declared.published.Publication.{Publication}
use Rattle.group_search.specs.Home.{Home}
use Rattle.group_search.specs.Image.{Image}
use Rattle.group_cell.specs.Seats.{Changes, HasLooked, IsReaderOf, IsWriterOf, looks, opened_with, published, seen}
use Rattle.replica_shard.specs.Owners.{cell_of, in_cluster}
use Rattle.replica_shard.specs.Store.{ShardStore}
use Rattle.replica_shard.specs.declared.shard.Shard.{Shard}
use Rattle.replica_shard.specs.declared.shard.ShardReader.{ShardReader}
use Rattle.replica_shard.specs.declared.shard.ShardWriter.{ShardWriter}

-- the images with which the owner's blocks were opened
abbrev pub opening_images : Shard → List Image
opening_images shard = (opened_with shard.table).images

-- the records that the writer has taken, in order, by the cluster's blocks
abbrev pub taken_list : Shard → ShardWriter → List Publication
taken_list shard writer = map (in_cluster shard.shape.nodes shard.owner) (published writer.seat)

-- how many of these the reader has seen
abbrev pub seen_list : Shard → ShardReader → List Publication
seen_list shard reader = map (in_cluster shard.shape.nodes shard.owner) (seen reader.seat)

-- the shard after these records
abbrev pub shard_at : Shard → List Publication → ShardStore
shard_at shard list = record { size = shard.shape; owner = shard.owner; images = opening_images shard; list = list }

-- the shard after all that the writer has taken
abbrev pub shard_taken : Shard → ShardWriter → ShardStore
shard_taken shard writer = shard_at shard (taken_list shard writer)

-- the shard after all that the reader has seen
abbrev pub shard_seen : Shard → ShardReader → ShardStore
shard_seen shard reader = shard_at shard (seen_list shard reader)

-- the seat is the shard's
abbrev pub IsShardWriterOf : Shard → ShardWriter → Type 0
IsShardWriterOf shard writer = IsWriterOf shard.table writer.seat

abbrev pub IsShardReaderOf : Shard → ShardReader → Type 0
IsShardReaderOf shard reader = IsReaderOf shard.table reader.seat

-- how many routes the reader has asked for, each by a first load of its group's sequence word
abbrev pub first_loads : ShardReader → ℕ
first_loads reader = looks reader.seat

-- the reader's last look was of the group, and its two loads of the sequence word found these numbers
abbrev pub HasRouted : Shard → ShardReader → Home → (first second : ℕ) → Type 0
HasRouted shard reader at first second = HasLooked reader.seat (cell_of shard.shape.nodes at) first second

-- the group was being rewritten when this route was asked for, or its sequence word was another when the look ended
abbrev pub FindsChange : Shard → ShardReader → Home → (first second : ℕ) → Type 0
FindsChange shard reader at first second = Changes reader.seat (cell_of shard.shape.nodes at) first second
