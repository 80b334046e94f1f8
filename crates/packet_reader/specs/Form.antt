-- The form of the events that the rows of a script say.
use Rattle.std.specs.Prelude.{ℕ, ◌≡◌, ◌<◌, ◌≤◌, List, All, IsTrue}
use Rattle.flow_types.specs.Key.{IsKeyValue}
use Rattle.flow_types.specs.Map.{IsRecordValue}
use Rattle.flow_types.specs.Size.{Size}
use Rattle.flow_types.specs.Limits.{most_turns}
use Rattle.packet_reader.specs.declared.event.Event.{Event}
use Rattle.packet_reader.specs.declared.event.Event.TheVariants.{Set, Del, Packet, Carry, Sync}
use Rattle.packet_reader.specs.declared.mode.Mode.{Mode}
use Rattle.packet_reader.specs.Events.{events_in}
use Rattle.packet_reader.specs.Kind.{kind_of_event}
use Rattle.packet_reader.specs.Meaning.{HasFewPhases}
use Rattle.packet_reader.specs.Mode.{may_stand}

-- one of an owner's turns is told to a node: both are nodes of the cluster, and turns are numbered from 1 to 65,535
pub record IsCarried (nodes node owner turn : ℕ) : Type 0 where
  pub to_a_node : node < nodes
  pub of_a_node : owner < nodes
  pub at_least_one : 1 ≤ turn
  pub most : turn ≤ most_turns

-- the nodes and turns that the event names are there, in a cluster of this shape
abbrev pub IsInRange : Size → Event → Type 0
IsInRange shape (Set flow) = flow.node < shape.nodes
IsInRange shape (Del key) = Unit {0}
IsInRange shape (Packet ingress key) = ingress < shape.nodes
IsInRange shape (Carry node owner turn part) = IsCarried shape.nodes node owner turn
IsInRange shape Sync = Unit {0}

-- the event has the form of a row of this mode, in a cluster of this shape
pub record IsFormed (mode : Mode) (shape : Size) (event : Event) : Type 0 where
  pub allowed : IsTrue (may_stand mode (kind_of_event event))
  pub in_range : IsInRange shape event

-- ---- numbers

-- the key that the event names is in range
abbrev pub HasKeyValue : Event → Type 0
HasKeyValue (Set flow) = IsKeyValue flow.key
HasKeyValue (Del key) = IsKeyValue key
HasKeyValue (Packet ingress key) = IsKeyValue key
HasKeyValue (Carry node owner turn part) = Unit {0}
HasKeyValue Sync = Unit {0}

-- the numbers of the record that the event sets are in range, if it sets one
abbrev pub HasRecordValue : Event → Type 0
HasRecordValue (Set flow) = IsRecordValue flow.info
HasRecordValue _ = Unit {0}

-- ---- events of a script

-- the event has the form of a row of this mode, in a cluster of this shape, and its key is in range
pub record IsRowOf (mode : Mode) (shape : Size) (event : Event) : Type 0 where
  pub formed : IsFormed mode shape event
  pub value : HasKeyValue event

-- so has each of the events, the records that they set are in range, and they have no more phases than this mode may have
pub record IsScriptOf (mode : Mode) (shape : Size) (script : List Event) : Type 0 where
  pub rows : All (IsRowOf mode shape) script
  pub records : All HasRecordValue script
  pub few_phases : HasFewPhases (events_in mode shape) script
