-- A lane's steps along the events of a phase.
use Rattle.std.specs.Prelude.{◌≡◌, ℕ, ◌<◌, List, ◌∷◌, ◌++◌, Option}
use Rattle.flow_types.specs.Size.{Size}
use Rattle.packet_reader.specs.declared.event.Event.{Event}
use Rattle.packet_reader.specs.declared.event.Event.TheVariants.{Packet}
use Rattle.run_model.specs.declared.reply.Reply.{Reply}
use Rattle.storm_model.specs.Lists.{IsLater, Lists, Parts, WalksByLists}
use Rattle.storm_model.specs.Merging.{with_said}

-- a packet enters at a node of the cluster
abbrev pub Enters : Size → Event → Type 0
Enters size (Packet ingress key) = ingress < size.nodes
Enters size event = Unit {0}

-- a walk that goes on after the event is one from the event on
pub record TakesStep (size : Size) (parts : Parts) (lanes lane : ℕ) (event : Event) (packet after : ℕ) (from now : Lists) (said : Option Reply) : Type 0 where
  pub on : (script : List Event) (rest : List Reply) (to : Lists) → WalksByLists size parts lanes lane now after script rest to
      → WalksByLists size parts lanes lane from packet (event ∷ script) (with_said said rest) to

-- how far the lane has come: these are its replies so far, and a walk that goes on from here is one from the beginning on
pub record WalksSoFar (size : Size) (parts : Parts) (lanes lane : ℕ) (from : Lists) (first : ℕ) (events : List Event) (before : List Reply)
    (now : Lists) (packet : ℕ) (rest : List Event) (replies : List Reply) : Type 0 where
  pub made : List Reply
  pub behind : replies ≡ before ++ made
  pub later : IsLater from now
  pub on : (more : List Reply) (to : Lists) → WalksByLists size parts lanes lane now packet rest more to
      → WalksByLists size parts lanes lane from first events (made ++ more) to

-- the lane's replies, behind others
pub record WalksBehind (size : Size) (parts : Parts) (lanes lane : ℕ) (from : Lists) (first : ℕ) (events : List Event) (before after : List Reply) (to : Lists) : Type 0 where
  pub made : List Reply
  pub behind : after ≡ before ++ made
  pub walk : WalksByLists size parts lanes lane from first events made to
