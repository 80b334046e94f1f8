-- What holds of every storm, phase by phase and as a whole.
use Rattle.std.specs.Prelude.{◌≡◌, ◌≢◌, ℕ, zero, suc, ◌<◌, All, List, [], ◌∷◌, ◌++◌, length}
use Rattle.flow_types.specs.Size.{IsShape}
use Rattle.group_history.specs.declared.change.Change.{Change}
use Rattle.packet_reader.specs.declared.event.Event.{Event}
use Rattle.packet_reader.specs.declared.event.Event.TheVariants.{Sync}
use Rattle.group_history.specs.declared.update.Update.{Update}
use Rattle.group_history.specs.Acceptance.{updated_key}
use Rattle.run_model.specs.declared.reply.Reply.{Reply}
use Rattle.run_model.specs.declared.reply.Reply.TheVariants.{Synced}
use Rattle.run_model.specs.Allowed.{Allowed, phase_end}
use Rattle.run_model.specs.Laws.{CanBeOpened, no_journals}
use Rattle.run_model.specs.Sound.{AreSoundJournals}
use Rattle.run_model.specs.State.{ClusterOpening, Journals, journal_of}
use Rattle.run_model.specs.Told.{EachPacket, GoesByRecord}
use Rattle.run_model.specs.Updates.{after_update, update_reply}
use Rattle.storm_model.specs.Merging.{CanMerge, Merged, Queues, owner_of_key}
use Rattle.storm_model.specs.Owners.{HasNoUpdate, own_after, own_changes, own_replies, own_reply}
use Rattle.storm_model.specs.Phase.{IsOnePhase, packets_after}
use Rattle.storm_model.specs.Run.{AreJournals, IsPhaseSaid, IsRow, LaneGave, WorkersGave}
use Rattle.storm_model.specs.Stood.{WalksByTurns, all_seen}

-- ---- owners

-- the model's reply to an update is what the update's owner says by itself, and only what this owner has accepted may change
pub record AnswersAlone (opened : ClusterOpening) (journals : Journals) (owner : ℕ) (asked : Update) : Type 0 where
  pub reply : update_reply opened journals asked ≡ own_reply opened owner (journal_of journals owner) asked
  pub own : journal_of (after_update opened journals asked) owner ≡ own_after opened (journal_of journals owner) asked
  pub others : (other : ℕ) → other ≢ owner → journal_of (after_update opened journals asked) other ≡ journal_of journals other

abbrev pub OwnersAnswerAlone : Type 0
OwnersAnswerAlone = (opened : ClusterOpening) (journals : Journals) (asked : Update) → owner_of_key opened.size (updated_key asked) < length journals
    → AnswersAlone opened journals (owner_of_key opened.size (updated_key asked)) asked

-- what each owner has accepted by the end of a phase is what it makes by itself of the phase's events
abbrev pub OwnersEndAlone : Type 0
OwnersEndAlone = (opened : ClusterOpening) (journals : Journals) (script : List Event) (owner : ℕ) → IsOnePhase script → owner < length journals
    → journal_of (phase_end opened journals script) owner ≡ own_changes opened owner (journal_of journals owner) script

-- an owner without an update among the events says nothing, and has accepted what it had accepted
pub record IsIdle (opened : ClusterOpening) (owner : ℕ) (changes : List Change) (script : List Event) : Type 0 where
  pub says_nothing : own_replies opened owner changes script ≡ []
  pub accepts_nothing : own_changes opened owner changes script ≡ changes

abbrev pub IdleOwnersSayNothing : Type 0
IdleOwnersSayNothing = (opened : ClusterOpening) (owner : ℕ) (changes : List Change) (script : List Event) → HasNoUpdate opened.size owner script
    → IsIdle opened owner changes script

-- ---- a phase

-- what owners have accepted is fit for a phase where it was fit for the phase before
abbrev pub JournalsGoOn : Type 0
JournalsGoOn = (opened : ClusterOpening) (journals : Journals) (script : List Event) → IsShape opened.size.nodes opened.size.blocks → IsOnePhase script → All (IsRow opened) script
    → AreJournals opened journals → AreJournals opened (phase_end opened journals script)

-- what a lane answered by the lists that its readers had seen is what the model answers by numbers of turns
abbrev pub LanesWalkByTurns : Type 0
LanesWalkByTurns = (opened : ClusterOpening) (lanes lane : ℕ) (journals ends : Journals) (packets : ℕ) (script : List Event) (replies : List Reply)
    → IsShape opened.size.nodes opened.size.blocks → AreSoundJournals opened ends → All (IsRow opened) script
    → LaneGave opened lanes lane journals ends packets script replies → WalksByTurns opened ends lanes lane (all_seen opened journals) packets script replies (all_seen opened ends)

-- there is a reply to each event, whatever is merged is what the phase says, and the next phase may begin
pub record CanBeSaid (opened : ClusterOpening) (lanes : ℕ) (journals ends : Journals) (packets : ℕ) (script : List Event) (owners by_lane : Queues) : Type 0 where
  pub can : CanMerge opened.size lanes owners by_lane packets script
  pub said : (replies : List Reply) → Merged opened.size lanes owners by_lane packets script replies → IsPhaseSaid opened lanes journals ends packets script replies
  pub fit : AreJournals opened ends

abbrev pub PhasesAreSaid : Type 0
PhasesAreSaid = (opened : ClusterOpening) (lanes : ℕ) (journals ends : Journals) (packets : ℕ) (script : List Event) (owners by_lane : Queues)
    → IsShape opened.size.nodes opened.size.blocks → 0 < lanes → WorkersGave opened lanes journals ends packets script owners by_lane
    → CanBeSaid opened lanes journals ends packets script owners by_lane

-- ---- a storm

-- what owners and lanes have said phase after phase, where this many syncs are left: the first phase began with these journals,
-- and its first packet has this number
abbrev pub IsStormSaid : ClusterOpening → (lanes syncs : ℕ) → Journals → (packets : ℕ) → List Event → List Reply → Type 0
IsStormSaid opened lanes zero journals packets script replies = (ends : Journals) × IsPhaseSaid opened lanes journals ends packets script replies
IsStormSaid opened lanes (suc syncs) journals packets script replies =
    (ends : Journals) × (phase rest : List Event) × (said more : List Reply) × (script ≡ phase ++ Sync ∷ rest) × (replies ≡ said ++ Synced ∷ more)
    × IsPhaseSaid opened lanes journals ends packets phase said × IsStormSaid opened lanes syncs ends (packets_after packets phase) rest more

-- what they have said is allowed by the model
abbrev pub StormsAreAllowed : Type 0
StormsAreAllowed = (opened : ClusterOpening) (lanes syncs : ℕ) (script : List Event) (replies : List Reply) → CanBeOpened opened → 0 < lanes
    → IsStormSaid opened lanes syncs (no_journals opened) 0 script replies → Allowed opened lanes script replies

-- and each packet goes where the canonical record of its key's group sends it
abbrev pub StormsGoByRecords : Type 0
StormsGoByRecords = (opened : ClusterOpening) (lanes syncs : ℕ) (script : List Event) (replies : List Reply) → CanBeOpened opened → 0 < lanes
    → IsStormSaid opened lanes syncs (no_journals opened) 0 script replies → EachPacket opened (GoesByRecord opened) (no_journals opened) script replies
