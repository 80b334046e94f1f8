-- A run of a storm, as a contract sees it.
use Rattle.std.specs.Prelude.{◌≡◌, ℕ, ◌++◌, List}
use Rattle.packet_reader.specs.declared.event.Event.{Event}
use Rattle.packet_reader.specs.declared.event.Event.TheVariants.{Carry}
use Rattle.run_model.specs.declared.reply.Reply.{Reply}
use Rattle.run_model.specs.State.{Journals, ClusterOpening}
use Rattle.storm_model.specs.Run.{IsPhaseSaid}

-- the cluster's opening, how many lanes there are, and what the owners have accepted
pub record StormState : Type 0 where
  pub opened : ClusterOpening
  pub lanes : ℕ
  pub journals : Journals

-- in a storm nothing is carried by the script
abbrev pub IsNoCarry : Event → Type 0
IsNoCarry (Carry node owner turn part) = ⊥
IsNoCarry event = Unit {0}

-- the phase's replies stand behind those before, and the journals are those of its end
pub record PhaseBehind (before after : StormState) (packets : ℕ) (script : List Event) (replies replies' : List Reply) : Type 0 where
  pub made : List Reply
  pub behind : replies' ≡ replies ++ made
  pub same_opened : after.opened ≡ before.opened
  pub same_lanes : after.lanes ≡ before.lanes
  pub said : IsPhaseSaid before.opened before.lanes before.journals after.journals packets script made
