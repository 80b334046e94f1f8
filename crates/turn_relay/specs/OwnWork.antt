-- An owner's work on the events of a phase.
use Rattle.std.specs.Prelude.{◌≡◌, ◌≢◌, ℕ, ◌<◌, false, List, ◌∷◌, Option, None, Some}
use Rattle.flow_types.specs.declared.record.Flow.{Flow}
use Rattle.flow_types.specs.Size.{Size}
use Rattle.group_history.specs.declared.change.Change.{Change}
use Rattle.packet_reader.specs.declared.event.Event.{Event}
use Rattle.packet_reader.specs.declared.event.Event.TheVariants.{Del, Set}
use Rattle.group_history.specs.declared.update.Update.{Update}
use Rattle.group_history.specs.declared.update.Update.TheVariants as update
use Rattle.group_history.specs.Acceptance.{updated_key}
use Rattle.run_model.specs.declared.reply.Reply.{Reply}
use Rattle.run_model.specs.State.{ClusterOpening}
use Rattle.storm_model.specs.Merging.{behind_with, owner_of_key, with_said}
use Rattle.storm_model.specs.Owners.{own_changes, own_replies}
use Rattle.turn_relay.specs.OwnerState.{HasSentAll, IsSameOwner, OwnerState, Stands, journal_in}

abbrev pub opening_of : Size → List Flow → ClusterOpening
opening_of size flows = record { size = size; flows = flows }

-- the node of a flow that is set is one of the cluster
abbrev pub IsOwnRow : Size → Event → Type 0
IsOwnRow size (Set flow) = flow.node < size.nodes
IsOwnRow size event = Unit {0}

abbrev pub GoesToNode : (nodes : ℕ) → Update → Type 0
GoesToNode nodes (update.Set flow) = flow.node < nodes
GoesToNode nodes (update.Del key) = Unit {0}

-- the update is asked of the owner, or it is another owner's
abbrev pub IsAskedOf : Size → (owner : ℕ) → (update : Update) → (asked : Option Update) → Type 0
IsAskedOf size owner update None = owner_of_key size (updated_key update) ≢ owner
IsAskedOf size owner update (Some asked) = (asked ≡ update) × (owner_of_key size (updated_key update) ≡ owner)

-- the update that the event asks of the owner, if it asks one
abbrev pub IsAsked : Size → (owner : ℕ) → Event → (asked : Option Update) → Type 0
IsAsked size owner (Set flow) asked = IsAskedOf size owner (update.Set flow) asked
IsAsked size owner (Del key) asked = IsAskedOf size owner (update.Del key) asked
IsAsked size owner event asked = asked ≡ None

-- the owner's replies and changes from the event on are what it said of the event and those from then on
pub record SaysOwn (opened : ClusterOpening) (owner : ℕ) (event : Event) (before after : List Change) (said : Option Reply) : Type 0 where
  pub replies : (script : List Event) → own_replies opened owner before (event ∷ script) ≡ with_said said (own_replies opened owner after script)
  pub changes : (script : List Event) → own_changes opened owner before (event ∷ script) ≡ own_changes opened owner after script

-- the owner's answer to an event, and its turn, if it has one, sent
pub record AnswersOne (flows : List Flow) (event : Event) (before after : OwnerState) : Type 0 where
  pub said : Option Reply
  pub says : SaysOwn (opening_of before.size flows) before.number event (journal_in before) (journal_in after) said
  pub behind : after.replies ≡ behind_with before.replies said
  pub sent : HasSentAll flows before → HasSentAll flows after

-- it has answered its updates among the events, and has sent their turns
pub record HasOwned (flows : List Flow) (events : List Event) (before after : OwnerState) : Type 0 where
  pub replies : after.replies ≡ own_replies (opening_of before.size flows) before.number (journal_in before) events
  pub changes : journal_in after ≡ own_changes (opening_of before.size flows) before.number (journal_in before) events
  pub sent : HasSentAll flows before → HasSentAll flows after

-- an owner's work in a phase: where memory wasn't wanting, all of it
abbrev pub OwnerDid : List Flow → List Event → (before after : OwnerState) → Type 0
OwnerDid flows events before after = IsSameOwner before after × Stands flows after × (after.failed ≡ false → HasOwned flows events before after)
