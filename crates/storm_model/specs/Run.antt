-- How far a storm has come, phase by phase, and what its workers give back of a phase.
use Rattle.std.specs.Prelude.{◌≡◌, ℕ, ◌<◌, ◌≤◌, List, [], length, All}
use Rattle.packet_reader.specs.declared.event.Event.{Event}
use Rattle.delta_codec.specs.Journals.{IsJournalOf}
use Rattle.run_model.specs.declared.reply.Reply.{Reply}
use Rattle.run_model.specs.Allowed.{phase_end}
pub use Rattle.run_model.specs.Laws.{IsRow}
use Rattle.run_model.specs.Sound.{AreSoundJournals}
use Rattle.flow_types.specs.Size.{owners_in}
use Rattle.run_model.specs.State.{Journals, ClusterOpening, journal_of}
use Rattle.storm_model.specs.Lists.{AreTurns, IsLater, Lists, Parts, WalksByLists}
use Rattle.storm_model.specs.Merging.{Merged, Queues}
use Rattle.storm_model.specs.Owners.{own_changes, own_replies}
use Rattle.storm_model.specs.Phase.{IsOnePhase}
use Rattle.storm_model.specs.Stood.{WalksByTurns, all_seen}

-- what the owners may have accepted between two phases: along each journal groups have sound maps, an owner's changes are of its
-- own groups, and an owner without a block has none
pub record AreJournals (opened : ClusterOpening) (journals : Journals) : Type 0 where
  pub whole : length journals ≡ opened.size.nodes
  pub sounds : AreSoundJournals opened journals
  pub own : (owner : ℕ) → owner < owners_in opened.size → IsJournalOf opened.size owner opened.flows (journal_of journals owner)
  pub none : (owner : ℕ) → owners_in opened.size ≤ owner → journal_of journals owner ≡ []

-- what owners and lanes have said in a phase that began with these journals and ended with those, and in which the first packet
-- has this number
pub record IsPhaseSaid (opened : ClusterOpening) (lanes : ℕ) (journals ends : Journals) (packets : ℕ) (script : List Event) (replies : List Reply) : Type 0 where
  pub owners : Queues
  pub by_lane : Queues
  pub rows : All (IsRow opened) script
  pub ends_so : phase_end opened journals script ≡ ends
  pub owned : (owner : ℕ) → owner < length journals → owners owner ≡ own_replies opened owner (journal_of journals owner) script
  pub walked : (lane : ℕ) → lane < lanes → WalksByTurns opened ends lanes lane (all_seen opened journals) packets script (by_lane lane) (all_seen opened ends)
  pub merged : Merged opened.size lanes owners by_lane packets script replies

-- ---- what workers give back

-- an owner has answered its updates, and has accepted what it has accepted of them
pub record OwnerGave (opened : ClusterOpening) (owner : ℕ) (journals ends : Journals) (script : List Event) (replies : List Reply) : Type 0 where
  pub said : replies ≡ own_replies opened owner (journal_of journals owner) script
  pub accepted : journal_of ends owner ≡ own_changes opened owner (journal_of journals owner) script

-- a lane had seen all turns before the phase, has answered its packets, and was then told all turns
pub record LaneGave (opened : ClusterOpening) (lanes lane : ℕ) (journals ends : Journals) (packets : ℕ) (script : List Event) (replies : List Reply) : Type 0 where
  pub parts : Parts
  pub from : Lists
  pub now : Lists
  pub last : Lists
  pub before : AreTurns opened parts journals from
  pub walk : WalksByLists opened.size parts lanes lane from packets script replies now
  pub told : IsLater now last
  pub after : AreTurns opened parts ends last

-- each owner and each lane has done so, in one phase of rows
pub record WorkersGave (opened : ClusterOpening) (lanes : ℕ) (journals ends : Journals) (packets : ℕ) (script : List Event) (owners by_lane : Queues) : Type 0 where
  pub one : IsOnePhase script
  pub rows : All (IsRow opened) script
  pub fit : AreJournals opened journals
  pub as_many : length ends ≡ length journals
  pub owned : (owner : ℕ) → owner < length journals → OwnerGave opened owner journals ends script (owners owner)
  pub walked : (lane : ℕ) → lane < lanes → LaneGave opened lanes lane journals ends packets script (by_lane lane)
