-- What the threads of a phase do.
use Rattle.std.specs.Prelude.{◌≡◌, ℕ, ◌+◌, ◌<◌, ◌^◌, true, false, All, Bool, List, length}
use Rattle.flow_types.specs.declared.record.Flow.{Flow}
use Rattle.flow_types.specs.Size.{Size}
use Rattle.packet_reader.specs.declared.event.Event.{Event}
use Rattle.storm_lane.specs.Stepping.{Enters}
use Rattle.turn_relay.specs.Follow.{works}
use Rattle.turn_relay.specs.OwnWork.{IsOwnRow, OwnerDid}
use Rattle.turn_relay.specs.OwnerState.{OwnerState, Stands}

-- an owner that is to work in the phase was opened with the flows
abbrev pub CanWork : List Flow → (working : List Bool) → OwnerState → Type 0
CanWork flows working owner = works working owner.number ≡ true → Stands flows owner

-- an owner that works in the phase has done its work, and another is as it was
pub record OwnerTook (flows : List Flow) (events : List Event) (working : List Bool) (before after : OwnerState) : Type 0 where
  pub rests : works working before.number ≡ false → after ≡ before
  pub works_on : works working before.number ≡ true → OwnerDid flows events before after

-- the events are rows of a cluster of this size, and 32 bits number the packets and updates among them
pub record IsPhaseOf (size : Size) (events : List Event) (first_packet first_update : ℕ) : Type 0 where
  pub sets : All (IsOwnRow size) events
  pub enters : All (Enters size) events
  pub few_packets : first_packet + length events < 2 ^ 32
  pub few_updates : first_update + length events < 2 ^ 32
