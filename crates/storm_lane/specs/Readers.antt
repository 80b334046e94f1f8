-- What a contract sees of the readers that a lane has of one owner's turns: of each node's table, and of each node's FIB.
use Rattle.std.specs.Prelude.{◌≡◌, ◌≢◌, ℕ, List, [], length, map, slice_index_or, Option, Some, None}
use Rattle.std.specs.List.{slice_get}
use mathlib.Core.List.{IsPrefix}
use Rattle.logbook.specs.Pages.{Book}
use Rattle.flow_types.specs.declared.key.FlowKey.{FlowKey}
use Rattle.flow_types.specs.Size.{Size}
use Rattle.hash_family.specs.Hash.{place}
use Rattle.group_search.specs.declared.published.Publication.{Publication}
use Rattle.replica_shard.specs.declared.shard.Shard.{Shard}
use Rattle.replica_shard.specs.Seats.{shard_at}
use Rattle.replica_shard.specs.Shard.{home_in_state, route_in_state}
use Rattle.replica_shard.specs.Store.{ShardStore, shard_state_of}
use Rattle.partial_fib.specs.Ends.{ReaderState}
use Rattle.partial_fib.specs.Store.{FibStore}
use Rattle.run_model.specs.declared.reply.Reply.{Reply}
use Rattle.packet_path.specs.Fibs.{IsFibOf, fib_seen, turns_at}
use Rattle.packet_path.specs.Seated.{Viewed}
use Rattle.storm_model.specs.Lists.{reply_routed, with_list}

-- the readers of one owner, node by node
pub record ReadersState : Type 0 where
  pub size : Size
  pub owner : ℕ
  pub views : List Viewed
  pub fibs : List ReaderState

-- of which tables and FIBs they are readers: this stays as they see more
pub record Seats : Type 0 where
  pub size : Size
  pub owner : ℕ
  pub shards : List Shard
  pub books : List Book
  pub openings : List FibStore

abbrev pub seats_of : ReadersState → Seats
seats_of readers = record {
  size = readers.size;
  owner = readers.owner;
  shards = map (λ (v : Viewed). v.shard) readers.views;
  books = map (λ (r : ReaderState). r.book) readers.fibs;
  openings = map (λ (r : ReaderState). r.opening) readers.fibs;
}

-- there are as many of the one kind as of the other, each of a table or a FIB of this owner
pub record AreOwners (seats : Seats) : Type 0 where
  pub as_many : length seats.openings ≡ length seats.shards
  pub tables : (node : ℕ) (shard : Shard) → slice_get seats.shards node ≡ Some shard → (shard.shape ≡ seats.size) × (shard.owner ≡ seats.owner)
  pub fibs : (node : ℕ) (fib : FibStore) → slice_get seats.openings node ≡ Some fib → IsFibOf seats.size seats.owner node fib

-- ---- what they have seen

-- the records that the reader of a node's table has seen
abbrev pub records_at : List Viewed → (node : ℕ) → List Publication
records_at views node = slice_index_or (map (λ (v : Viewed). v.list) views) node []

-- each reader has seen the same, and perhaps more
pub record HaveSeenMore (before after : ReadersState) : Type 0 where
  pub tables : (node : ℕ) → IsPrefix (records_at before.views node) (records_at after.views node)
  pub fibs : (node : ℕ) → IsPrefix (turns_at before.fibs node) (turns_at after.fibs node)

-- the readers of the other nodes are as they were
pub record AreOthersAsBefore (node : ℕ) (before after : ReadersState) : Type 0 where
  pub tables : (other : ℕ) → other ≢ node → slice_get after.views other ≡ slice_get before.views other
  pub fibs : (other : ℕ) → other ≢ node → slice_get after.fibs other ≡ slice_get before.fibs other

-- ---- what they say

abbrev pub no_table : ShardStore
no_table = record { size = record { nodes = 0; blocks = 0 }; owner = 0; images = []; list = [] }

-- a node's table before the owner's first turn
abbrev pub table_opened : Option Shard → ShardStore
table_opened None = no_table
table_opened (Some shard) = shard_at shard []

abbrev pub table_at : Seats → (node : ℕ) → ShardStore
table_at seats node = table_opened (slice_get seats.shards node)

-- the reply to a packet whose key is the owner's
abbrev pub owner_reply : ReadersState → (ingress : ℕ) → FlowKey → Reply
owner_reply readers ingress key =
    let shard = shard_state_of (with_list (table_at (seats_of readers) ingress) (records_at readers.views ingress)) in
    let route = route_in_state shard (place readers.size.blocks key) key in
    reply_routed route.version route.node (fib_seen readers.fibs) (home_in_state shard (place readers.size.blocks key)) key
