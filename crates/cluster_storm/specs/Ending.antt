-- What the end of a phase makes of what the nodes have.
use Rattle.std.specs.Prelude.{◌≡◌, ℕ, ◌<◌, true, false, Bool, List, Some}
use Rattle.std.specs.List.{slice_get}
use Rattle.flow_types.specs.declared.record.Flow.{Flow}
use Rattle.turn_relay.specs.Each.{Every}
use Rattle.turn_relay.specs.Finish.{IsQuietAt, IsReadyAt}
use Rattle.turn_relay.specs.Follow.{IsSamePart, works}
use Rattle.turn_relay.specs.OwnerState.{HasSentAll, OwnerState, Stands}
use Rattle.turn_relay.specs.PartState.{ApplierState, PartState}

-- before the links are emptied: what an owner that worked has sent is to be taken, and another is quiet
pub record Awaits (flows : List Flow) (working : List Bool) (appliers : List ApplierState) (owner : OwnerState) : Type 0 where
  pub stands : Stands flows owner
  pub sent : HasSentAll flows owner
  pub ready : works working owner.number ≡ true → Every (IsReadyAt flows owner) appliers
  pub rests : works working owner.number ≡ false → Every (IsQuietAt flows owner) appliers

-- each of the applier's parts is of the same table and FIB as the one that stood at its index
pub record KeepsParts (before after : ApplierState) : Type 0 where
  pub node : after.node ≡ before.node
  pub parts : (index : ℕ) (now : PartState) → slice_get after.parts index ≡ Some now → (was : PartState) × (slice_get before.parts index ≡ Some was) × IsSamePart was now

-- the parts of the owners before this one are as they were
abbrev pub KeepsBefore : (owner : ℕ) → (before after : ApplierState) → Type 0
KeepsBefore owner before after = (after.node ≡ before.node) × ((index : ℕ) → index < owner → slice_get after.parts index ≡ slice_get before.parts index)
