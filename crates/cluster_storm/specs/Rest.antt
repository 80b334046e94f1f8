-- What stands in a storm between two phases.
use Rattle.std.specs.Prelude.{◌≡◌, ℕ, ◌<◌, ◌⊎◌, List, [], length, map, Option, Some, None}
use Rattle.std.specs.List.{range_with_len, slice_get}
use Rattle.flow_types.specs.declared.record.Flow.{Flow}
use Rattle.flow_types.specs.Size.{Size, owners_in}
use Rattle.group_history.specs.declared.change.Change.{Change}
use Rattle.packet_reader.specs.declared.event.Event.{Event}
use Rattle.run_model.specs.declared.reply.Reply.{Reply}
use Rattle.run_model.specs.Laws.{CanBeOpened}
use Rattle.run_model.specs.State.{ClusterOpening, Journals}
use Rattle.storm_model.specs.Owners.{HasNoUpdate}
use Rattle.storm_model.specs.Run.{AreJournals}
use Rattle.storm_model.specs.Storm.{PhaseBehind, StormState}
use Rattle.storm_lane.specs.Lane.{AreWhole, LaneState, all_seats, fib_book, lists_of, parts_of, table_shard}
use Rattle.storm_lane.specs.Readers.{Seats}
use Rattle.turn_relay.specs.Each.{Every}
use Rattle.turn_relay.specs.Finish.{IsQuietAt}
use Rattle.turn_relay.specs.OwnerState.{HasLinks, HasSentAll, OwnerState, Stands, journal_in}
use Rattle.turn_relay.specs.PartState.{ApplierState, PartState}

-- a storm: the cluster's size and the flows of its opening, its owners by number, the nodes' appliers and the lanes
pub record Stand : Type 0 where
  pub size : Size
  pub flows : List Flow
  pub owners : List OwnerState
  pub appliers : List ApplierState
  pub lanes : List LaneState

-- what the owner of a number has accepted: nothing where there is none
abbrev pub journal_of_owner : Option OwnerState → List Change
journal_of_owner None = []
journal_of_owner (Some owner) = journal_in owner

abbrev pub journals_in : Size → List OwnerState → Journals
journals_in size owners = map (λ (owner : ℕ). journal_of_owner (slice_get owners owner)) (range_with_len 0 size.nodes)

abbrev pub opening_of : Stand → ClusterOpening
opening_of storm = record { size = storm.size; flows = storm.flows }

-- the run of the storm, as the model sees it
abbrev pub state_of : Stand → StormState
state_of storm = record { opened = opening_of storm; lanes = length storm.lanes; journals = journals_in storm.size storm.owners }

-- ---- an owner, and what the nodes have of it

abbrev pub part_in : Option ApplierState → (owner : ℕ) → Option PartState
part_in None owner = None
part_in (Some applier) owner = slice_get applier.parts owner

abbrev pub part_at : List ApplierState → (node owner : ℕ) → Option PartState
part_at appliers node owner = part_in (slice_get appliers node) owner

-- the owner of this number was opened with the flows, has sent all its turns, and has no reply that nobody took
pub record IsOwnerAt (size : Size) (flows : List Flow) (number : ℕ) (owner : OwnerState) : Type 0 where
  pub sized : owner.size ≡ size
  pub numbered : owner.number ≡ number
  pub stands : Stands flows owner
  pub sent : HasSentAll flows owner
  pub quiet : owner.replies ≡ []

-- ---- a lane

-- the lane's readers of an owner at a node are of this table and FIB, and have seen all that these have taken
pub record HasSeen (lane : LaneState) (node owner : ℕ) (part : PartState) : Type 0 where
  pub shard : table_shard (all_seats lane.readers) node owner ≡ Some part.table.shard
  pub book : fib_book (all_seats lane.readers) node owner ≡ Some part.fib.book
  pub opening : (parts_of (all_seats lane.readers)).fibs node owner ≡ part.fib.opening
  pub records : (lists_of lane.readers).tables node owner ≡ part.table.list
  pub turns : (lists_of lane.readers).fibs node owner ≡ part.fib.turns

-- it is the lane of this number among these lanes, and has readers of each owner that has a block at each node
pub record IsLaneAt (size : Size) (lanes number : ℕ) (lane : LaneState) : Type 0 where
  pub sized : lane.size ≡ size
  pub numbered : lane.number ≡ number
  pub one_of : lane.lanes ≡ lanes
  pub whole : AreWhole size (all_seats lane.readers)
  pub fibs : (owner : ℕ) (own : Seats) → slice_get (all_seats lane.readers) owner ≡ Some own → length own.openings ≡ size.nodes

-- ---- all of them

-- an applier for each node
pub record AreAppliers (size : Size) (appliers : List ApplierState) : Type 0 where
  pub many : length appliers ≡ size.nodes
  pub numbered : (node : ℕ) (applier : ApplierState) → slice_get appliers node ≡ Some applier → applier.node ≡ node

abbrev pub AreOwners : Size → List Flow → List OwnerState → Type 0
AreOwners size flows owners = (length owners ≡ owners_in size) × ((number : ℕ) (owner : OwnerState) → slice_get owners number ≡ Some owner → IsOwnerAt size flows number owner)

-- each node has all turns of each owner, and nothing is left in a link
abbrev pub AllRest : List Flow → List OwnerState → List ApplierState → Type 0
AllRest flows owners appliers = (number : ℕ) (owner : OwnerState) → slice_get owners number ≡ Some owner → Every (IsQuietAt flows owner) appliers

abbrev pub AreLanes : Size → List LaneState → Type 0
AreLanes size lanes = (number : ℕ) (lane : LaneState) → slice_get lanes number ≡ Some lane → IsLaneAt size (length lanes) number lane

abbrev pub HaveSeenAll : List ApplierState → LaneState → Type 0
HaveSeenAll appliers lane = (node owner : ℕ) (part : PartState) → part_at appliers node owner ≡ Some part → HasSeen lane node owner part

-- between two phases, or before the first: each node has all turns of each owner, and each lane has seen them
pub record IsAtRest (storm : Stand) : Type 0 where
  pub can : CanBeOpened (opening_of storm)
  pub journals : AreJournals (opening_of storm) (journals_in storm.size storm.owners)
  pub owners : AreOwners storm.size storm.flows storm.owners
  pub appliers : AreAppliers storm.size storm.appliers
  pub rest : AllRest storm.flows storm.owners storm.appliers
  pub some_lane : 0 < length storm.lanes
  pub lanes : AreLanes storm.size storm.lanes
  pub seen : (number : ℕ) (lane : LaneState) → slice_get storm.lanes number ≡ Some lane → HaveSeenAll storm.appliers lane

-- an owner that has an update among the events is linked to the nodes
abbrev pub AreLinkedFor : Stand → List Event → Type 0
AreLinkedFor storm events = (number : ℕ) (owner : OwnerState) → slice_get storm.owners number ≡ Some owner → HasLinks owner ⊎ HasNoUpdate storm.size number events

-- a phase with these events was run: the storm that rested before it rests after it, and the replies are behind the others
pub record IsWorked (before after : Stand) (events : List Event) (first : ℕ) (replies replies' : List Reply) : Type 0 where
  pub rests : IsAtRest after
  pub links : (script : List Event) → AreLinkedFor before script → AreLinkedFor after script
  pub said : PhaseBehind (state_of before) (state_of after) first events replies replies'
