-- What a contract sees of a lane.
use Rattle.std.specs.Prelude.{◌≡◌, ℕ, ◌<◌, Bool, List, [], length, map, slice_index_or, Option, Some, None}
use Rattle.std.specs.List.{slice_get}
use Rattle.logbook.specs.Pages.{Book}
use Rattle.flow_types.specs.Size.{Size, owners_in}
use Rattle.group_search.specs.declared.published.Publication.{Publication}
use Rattle.delta_codec.specs.declared.message.FibMessage.{FibMessage}
use Rattle.replica_shard.specs.declared.shard.Shard.{Shard}
use Rattle.replica_shard.specs.Store.{ShardStore}
use Rattle.partial_fib.specs.Store.{FibStore}
use Rattle.run_model.specs.declared.reply.Reply.{Reply}
use Rattle.packet_path.specs.Fibs.{no_fib, turns_at}
use Rattle.storm_model.specs.Lists.{Lists, Parts}
use Rattle.storm_lane.specs.Readers.{ReadersState, Seats, no_table, records_at, seats_of, table_at}

-- the cluster's size, the lane's number, how many lanes there are, its readers by owner, its replies, and whether it met want of memory
pub record LaneState : Type 0 where
  pub size : Size
  pub number : ℕ
  pub lanes : ℕ
  pub readers : List ReadersState
  pub replies : List Reply
  pub failed : Bool

-- of which tables and FIBs the readers are, owner by owner
abbrev pub all_seats : List ReadersState → List Seats
all_seats readers = map seats_of readers

-- there are readers of a table and of a FIB at each node of the cluster, of the owner of this number
pub record IsWhole (size : Size) (owner : ℕ) (seats : Seats) : Type 0 where
  pub size_is : seats.size ≡ size
  pub owner_is : seats.owner ≡ owner
  pub one_each : length seats.shards ≡ size.nodes

-- and so it is for each owner that has a block
pub record AreWhole (size : Size) (seats : List Seats) : Type 0 where
  pub one_each : length seats ≡ owners_in size
  pub each : (owner : ℕ) (own : Seats) → slice_get seats owner ≡ Some own → IsWhole size owner own

-- the lane is one of its lanes, and has its readers
pub record IsLane (lane : LaneState) : Type 0 where
  pub one_of : lane.number < lane.lanes
  pub readers : AreWhole lane.size (all_seats lane.readers)

-- ---- what the readers have seen

abbrev pub tables_of : Option ReadersState → (node : ℕ) → List Publication
tables_of None node = []
tables_of (Some own) node = records_at own.views node

abbrev pub turns_of : Option ReadersState → (node : ℕ) → List FibMessage
turns_of None node = []
turns_of (Some own) node = turns_at own.fibs node

abbrev pub lists_of : List ReadersState → Lists
lists_of readers = record {
  tables = λ (node owner : ℕ). tables_of (slice_get readers owner) node;
  fibs = λ (node owner : ℕ). turns_of (slice_get readers owner) node;
}

-- ---- the tables and FIBs before the owners' first turns

abbrev pub table_part : Option Seats → (node : ℕ) → ShardStore
table_part None node = no_table
table_part (Some own) node = table_at own node

abbrev pub fib_part : Option Seats → (node : ℕ) → FibStore
fib_part None node = no_fib
fib_part (Some own) node = slice_index_or own.openings node no_fib

abbrev pub parts_of : List Seats → Parts
parts_of seats = record {
  tables = λ (node owner : ℕ). table_part (slice_get seats owner) node;
  fibs = λ (node owner : ℕ). fib_part (slice_get seats owner) node;
}

-- ---- the table and the FIB of one owner's readers at one node

abbrev pub shard_of : Option Seats → (node : ℕ) → Option Shard
shard_of None node = None
shard_of (Some own) node = slice_get own.shards node

abbrev pub book_of : Option Seats → (node : ℕ) → Option Book
book_of None node = None
book_of (Some own) node = slice_get own.books node

abbrev pub table_shard : List Seats → (node owner : ℕ) → Option Shard
table_shard seats node owner = shard_of (slice_get seats owner) node

abbrev pub fib_book : List Seats → (node owner : ℕ) → Option Book
fib_book seats node owner = book_of (slice_get seats owner) node
