-- What a contract sees of a table with a seat.
use Rattle.std.specs.Prelude.{◌≡◌, ℕ, List, Option, Some}
use Rattle.group_cell.specs.declared.view.Load.{Load}
use Rattle.group_cell.specs.declared.view.Sight.{Sight}
use Rattle.group_cell.specs.Layout.{address}
use Rattle.group_search.specs.declared.published.Publication.{Publication}
use Rattle.group_search.specs.Home.{Home}
use Rattle.replica_shard.specs.declared.shard.Shard.{Shard}
use Rattle.replica_shard.specs.Owners.{cell_of}
use Rattle.replica_shard.specs.Seats.{shard_at}
use Rattle.replica_shard.specs.Store.{ShardStore}

-- the shard, and the records that its writer has taken, in order
pub record Seated : Type 0 where
  pub shard : Shard
  pub list : List Publication

-- the shard, the records that a reader of it has seen, how many routes the reader has asked for, and its last look
pub record Viewed : Type 0 where
  pub shard : Shard
  pub list : List Publication
  pub loads : ℕ
  pub last : Option Sight

-- the shard after the records
abbrev pub table_taken : Seated → ShardStore
table_taken table = shard_at table.shard table.list

abbrev pub table_seen : Viewed → ShardStore
table_seen view = shard_at view.shard view.list

-- the reader's last look was of the group, and its two loads of the sequence word found these numbers
pub record HasLookedAt (view : Viewed) (at : Home) (first second : ℕ) : Type 0 where
  pub loads : List Load
  pub last : view.last ≡ Some (record { at = address (cell_of view.shard.shape.nodes at); first = first; second = Some second; loads = loads })
