-- Which owners work in a phase.
use Rattle.std.specs.Prelude.{◌≡◌, ◌↔◌, ℕ, false, Bool, List, length}
use Rattle.flow_types.specs.Size.{Size}
use Rattle.packet_reader.specs.declared.event.Event.{Event}
use Rattle.storm_model.specs.Owners.{HasNoUpdate, IsNotOf}
use Rattle.turn_relay.specs.Follow.{works}

-- who isn't marked is who wasn't, if the event is none of its updates
abbrev pub IsMarked : Size → Event → (before after : List Bool) → Type 0
IsMarked size event before after = (owner : ℕ) → (works after owner ≡ false) ↔ ((works before owner ≡ false) × IsNotOf size owner event)

-- those that don't work are those that have no update among the events
pub record WorkAlone (size : Size) (events : List Event) (working : List Bool) : Type 0 where
  pub many : length working ≡ size.nodes
  pub others : (owner : ℕ) → (works working owner ≡ false) ↔ HasNoUpdate size owner events
