-- What the caller finds at a phase's end, where all threads are taken in.
use Rattle.std.specs.Prelude.{◌≡◌, ℕ, List, [], Some}
use Rattle.std.specs.List.{slice_get}
use Rattle.flow_types.specs.declared.record.Flow.{Flow}
use Rattle.flow_types.specs.Size.{Size}
use Rattle.replica_shard.specs.Seats.{shard_at}
use Rattle.replica_shard.specs.Shard.{shard_after}
use Rattle.replica_shard.specs.Store.{shard_state_of}
use Rattle.partial_fib.specs.Fib.{fib_after}
use Rattle.partial_fib.specs.Store.{state_of}
use Rattle.node_link.specs.Ends.{End}
use Rattle.storm_model.specs.Follows.{FibFollows, TableFollows}
use Rattle.turn_relay.specs.declared.state.State.TheVariants.{Clear}
use Rattle.turn_relay.specs.Each.{ChangesAt, HasAt}
use Rattle.turn_relay.specs.Follow.{Follows, GoesOn}
use Rattle.turn_relay.specs.OwnerState.{HasLinks, OwnerState, journal_in}
use Rattle.turn_relay.specs.PartState.{ApplierState, PartState, link_of, taken_by}

-- the owner's end to the node and the part's end are of one link
pub record IsLinked (node : ℕ) (owner : OwnerState) (part : PartState) : Type 0 where
  pub end : End
  pub there : slice_get owner.ends node ≡ Some end
  pub size : part.size ≡ owner.size
  pub link : link_of part.end ≡ Some end.line

-- and all that was sent was taken
pub record IsSettled (node : ℕ) (owner : OwnerState) (part : PartState) : Type 0 where
  pub linked : IsLinked node owner part
  pub all : taken_by part.end ≡ linked.end.messages

-- the part's table and FIB are a node's of this owner, opened with these flows
pub record IsPartOf (size : Size) (node owner : ℕ) (flows : List Flow) (part : PartState) : Type 0 where
  pub sized : part.size ≡ size
  pub numbered : part.owner ≡ owner
  pub table : shard_state_of (shard_at part.table.shard []) ≡ shard_after size owner flows []
  pub fib : state_of part.fib.opening ≡ fib_after size node owner flows []

-- the node's table and FIB have taken all turns of the owner, and no others
pub record IsUpToDate (flows : List Flow) (node : ℕ) (owner : OwnerState) (part : PartState) : Type 0 where
  pub table : TableFollows owner.size owner.number flows (shard_at part.table.shard []) part.table.list (journal_in owner)
  pub fib : FibFollows owner.size node owner.number flows part.fib.turns (journal_in owner)

-- before the last messages are taken: the part follows, and is linked to the owner
pub record IsReady (flows : List Flow) (node : ℕ) (owner : OwnerState) (part : PartState) : Type 0 where
  pub of : IsPartOf owner.size node owner.number flows part
  pub linked : IsLinked node owner part
  pub follows : Follows part

-- all messages are taken
pub record IsDone (flows : List Flow) (node : ℕ) (owner : OwnerState) (part : PartState) : Type 0 where
  pub of : IsPartOf owner.size node owner.number flows part
  pub settled : IsSettled node owner part
  pub follows : Follows part

-- all that was sent was taken, and it was applied
pub record IsAtRest (flows : List Flow) (node : ℕ) (owner : OwnerState) (part : PartState) : Type 0 where
  pub of : IsPartOf owner.size node owner.number flows part
  pub settled : IsSettled node owner part
  pub follows : Follows part
  pub clear : part.state ≡ Clear
  pub current : IsUpToDate flows node owner part

-- between two phases, whether or not the owner has links: the node has all turns of the owner, and nothing is left in a link
pub record IsQuiet (flows : List Flow) (node : ℕ) (owner : OwnerState) (part : PartState) : Type 0 where
  pub of : IsPartOf owner.size node owner.number flows part
  pub settled : HasLinks owner → IsSettled node owner part
  pub follows : Follows part
  pub clear : part.state ≡ Clear
  pub current : IsUpToDate flows node owner part

-- the same of an applier's part of the owner
abbrev pub IsLinkedAt : OwnerState → ApplierState → Type 0
IsLinkedAt owner applier = HasAt owner.number (IsLinked applier.node owner) applier.parts

abbrev pub IsSettledAt : OwnerState → ApplierState → Type 0
IsSettledAt owner applier = HasAt owner.number (IsSettled applier.node owner) applier.parts

abbrev pub IsDoneAt : List Flow → OwnerState → ApplierState → Type 0
IsDoneAt flows owner applier = HasAt owner.number (IsDone flows applier.node owner) applier.parts

abbrev pub IsReadyAt : List Flow → OwnerState → ApplierState → Type 0
IsReadyAt flows owner applier = HasAt owner.number (IsReady flows applier.node owner) applier.parts

abbrev pub IsAtRestAt : List Flow → OwnerState → ApplierState → Type 0
IsAtRestAt flows owner applier = HasAt owner.number (IsAtRest flows applier.node owner) applier.parts

abbrev pub IsQuietAt : List Flow → OwnerState → ApplierState → Type 0
IsQuietAt flows owner applier = HasAt owner.number (IsQuiet flows applier.node owner) applier.parts

-- the applier's part of the owner goes on, and the others stay
abbrev pub Finishes : (owner : ℕ) → (before after : ApplierState) → Type 0
Finishes owner before after = (after.node ≡ before.node) × ChangesAt owner GoesOn before.parts after.parts
