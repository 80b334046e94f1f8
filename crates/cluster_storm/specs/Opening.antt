-- What stands in a storm's cluster before its first event.
use Rattle.std.specs.Prelude.{◌≡◌, ◌<◌, ℕ, List, [], length, Some}
use Rattle.std.specs.List.{slice_get}
use Rattle.flow_types.specs.declared.record.Flow.{Flow}
use Rattle.flow_types.specs.Size.{Size, owners_in}
use Rattle.storm_lane.specs.Lane.{AreWhole, LaneState, all_seats}
use Rattle.storm_lane.specs.Readers.{ReadersState, Seats}
use Rattle.turn_log.specs.Sender.{SenderState}
use Rattle.turn_relay.specs.Each.{AllFrom}
use Rattle.turn_relay.specs.Linking.{AreFresh, IsFresh, KeepsTurns}
use Rattle.turn_relay.specs.OwnerState.{OwnerState, Stands, journal_in}
use Rattle.turn_relay.specs.PartState.{ApplierState, PartState}
use Rattle.cluster_storm.specs.Rest.{HaveSeenAll}

-- the node's applier has a part for each owner that has a block, and none of them is linked or has taken anything
pub record IsFreshNode (size : Size) (flows : List Flow) (node : ℕ) (applier : ApplierState) : Type 0 where
  pub numbered : applier.node ≡ node
  pub many : length applier.parts ≡ owners_in size
  pub fresh : (owner : ℕ) (part : PartState) → slice_get applier.parts owner ≡ Some part → IsFresh size flows node owner part

-- so it is with each node
pub record AreFreshNodes (size : Size) (flows : List Flow) (appliers : List ApplierState) : Type 0 where
  pub many : length appliers ≡ size.nodes
  pub each : (node : ℕ) (applier : ApplierState) → slice_get appliers node ≡ Some applier → IsFreshNode size flows node applier

-- a lane with these readers has one of each table and of each FIB, and has seen all that these have taken
pub record ReadsAll (size : Size) (appliers : List ApplierState) (readers : List ReadersState) : Type 0 where
  pub whole : AreWhole size (all_seats readers)
  pub fibs : (owner : ℕ) (own : Seats) → slice_get (all_seats readers) owner ≡ Some own → length own.openings ≡ size.nodes
  pub seen : (lane : LaneState) → lane.readers ≡ readers → HaveSeenAll appliers lane

-- ---- owners

-- the sender is an owner's of this number
pub record IsSenderAt (size : Size) (number : ℕ) (sender : SenderState) : Type 0 where
  pub sized : sender.rib.size ≡ size
  pub numbered : sender.rib.number ≡ number

-- the owner of this number has no link yet, and no reply
pub record IsUnlinked (size : Size) (number : ℕ) (owner : OwnerState) : Type 0 where
  pub sized : owner.size ≡ size
  pub numbered : owner.number ≡ number
  pub unlinked : owner.ends ≡ []
  pub quiet : owner.replies ≡ []

-- it was opened with the flows, and has accepted nothing
pub record IsNewOwner (size : Size) (flows : List Flow) (number : ℕ) (owner : OwnerState) : Type 0 where
  pub alone : IsUnlinked size number owner
  pub stands : Stands flows owner
  pub new : journal_in owner ≡ []

-- so it is with each owner that has a block
pub record AreNewOwners (size : Size) (flows : List Flow) (owners : List OwnerState) : Type 0 where
  pub many : length owners ≡ owners_in size
  pub each : AllFrom (IsNewOwner size flows) 0 owners

-- the owner can be linked to the nodes
pub record CanBeLinked (flows : List Flow) (appliers : List ApplierState) (owner : OwnerState) : Type 0 where
  pub unlinked : owner.ends ≡ []
  pub new : journal_in owner ≡ []
  pub some : 0 < owner.size.nodes
  pub nodes : length appliers ≡ owner.size.nodes
  pub fresh : AreFresh flows owner 0 appliers

-- each of the applier's parts has the table and the FIB of the one that stood at its index
pub record KeepsTables (before after : ApplierState) : Type 0 where
  pub node : after.node ≡ before.node
  pub parts : (index : ℕ) (now : PartState) → slice_get after.parts index ≡ Some now → (was : PartState) × (slice_get before.parts index ≡ Some was) × KeepsTurns was now

-- ---- lanes

-- the lane of this number among these lanes
pub record IsLaneOf (size : Size) (lanes number : ℕ) (lane : LaneState) : Type 0 where
  pub sized : lane.size ≡ size
  pub numbered : lane.number ≡ number
  pub one_of : lane.lanes ≡ lanes
