-- What stands while the nodes' parts are made, and the lanes' readers of them.
use Rattle.std.specs.Prelude.{◌≡◌, ℕ, List, [], ◌∷◌, ◌++◌, length, map, Option, None, Some}
use Rattle.std.specs.List.{slice_get}
use Rattle.flow_types.specs.Size.{Size, owners_in}
use Rattle.replica_shard.specs.Seats.{shard_at}
use Rattle.replica_shard.specs.Store.{ShardStore}
use Rattle.partial_fib.specs.Ends.{ReaderState, reader_told}
use Rattle.partial_fib.specs.Store.{FibStore}
use Rattle.packet_path.specs.Fibs.{IsFibOf}
use Rattle.packet_path.specs.Seated.{Viewed}
use Rattle.storm_lane.specs.Readers.{ReadersState}
use Rattle.turn_relay.specs.declared.state.State.TheVariants.{Clear}
use Rattle.turn_relay.specs.Each.{ChangesAt, Each}
use Rattle.turn_relay.specs.PartState.{ApplierState, PartState}

-- ---- a part

-- the table is of the owner, and has taken nothing
pub record IsNewTable (size : Size) (owner : ℕ) (table : ShardStore) : Type 0 where
  pub sized : table.size ≡ size
  pub numbered : table.owner ≡ owner
  pub none : table.list ≡ []

-- so is the FIB
pub record IsNewFib (size : Size) (owner : ℕ) (fib : FibStore) : Type 0 where
  pub sized : fib.size ≡ size
  pub numbered : fib.owner ≡ owner
  pub none : fib.taken ≡ 0

-- the part is of this table and of this FIB, isn't linked, and has taken nothing
pub record IsNewPart (size : Size) (owner : ℕ) (opened : ShardStore) (shared : FibStore) (part : PartState) : Type 0 where
  pub sized : part.size ≡ size
  pub numbered : part.owner ≡ owner
  pub table : shard_at part.table.shard [] ≡ opened
  pub list : part.table.list ≡ []
  pub opening : part.fib.opening ≡ shared
  pub turns : part.fib.turns ≡ []
  pub unlinked : part.end ≡ None
  pub clear : part.state ≡ Clear

-- ---- a lane's readers of an owner

-- they are readers of the nodes before this one
pub record IsReadTo (size : Size) (owner node : ℕ) (own : ReadersState) : Type 0 where
  pub sized : own.size ≡ size
  pub numbered : own.owner ≡ owner
  pub many : length own.views ≡ node

-- the next readers are those of the part
pub record AwaitsPart (part : PartState) (own : ReadersState) : Type 0 where
  pub shape : part.table.shard.shape ≡ own.size
  pub owner : part.table.shard.owner ≡ own.owner
  pub fib : IsFibOf own.size own.owner (length own.views) part.fib.opening

-- there is one more of the part's table and one of its FIB, which have seen all that these have taken
pub record HasOneMore (part : PartState) (before after : ReadersState) : Type 0 where
  pub view : Viewed
  pub shard : view.shard ≡ part.table.shard
  pub list : view.list ≡ part.table.list
  pub after_is : after ≡ record before { views = before.views ++ view ∷ []; fibs = before.fibs ++ reader_told part.fib ∷ [] }

-- only the owner's readers are others, and there is one more of each
pub record TakesPart (owner : ℕ) (part : PartState) (before after : List ReadersState) : Type 0 where
  pub many : length after ≡ length before
  pub changes : ChangesAt owner (HasOneMore part) before after

-- ---- the readers of one owner, node by node

-- what the appliers have of the owner
abbrev pub column : List ApplierState → (owner : ℕ) → List (Option PartState)
column appliers owner = map (λ (applier : ApplierState). slice_get applier.parts owner) appliers

-- what the next node has of it, if its part is made
abbrev pub begun : Option PartState → List (Option PartState)
begun None = []
begun (Some part) = Some part ∷ []

abbrev pub column_with : List ApplierState → List PartState → (owner : ℕ) → List (Option PartState)
column_with appliers parts owner = column appliers owner ++ begun (slice_get parts owner)

-- the view is of the part's table, and the reader of its FIB, and they have seen all that these have taken
abbrev pub SeesTable : Option PartState → Viewed → Type 0
SeesTable None view = ⊥
SeesTable (Some part) view = (view.shard ≡ part.table.shard) × (view.list ≡ part.table.list)

abbrev pub SeesFib : Option PartState → ReaderState → Type 0
SeesFib None reader = ⊥
SeesFib (Some part) reader = reader ≡ reader_told part.fib

pub record ReadsColumn (size : Size) (owner : ℕ) (parts : List (Option PartState)) (own : ReadersState) : Type 0 where
  pub sized : own.size ≡ size
  pub numbered : own.owner ≡ owner
  pub tables : Each SeesTable parts own.views
  pub fibs : Each SeesFib parts own.fibs

-- a lane has readers of each owner that has a block, at each node where its part is made
pub record ReadsSoFar (size : Size) (parts : ℕ → List (Option PartState)) (readers : List ReadersState) : Type 0 where
  pub many : length readers ≡ owners_in size
  pub each : (owner : ℕ) (own : ReadersState) → slice_get readers owner ≡ Some own → ReadsColumn size owner (parts owner) own
