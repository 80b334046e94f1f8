-- An owner with the messages of its turns.
use Rattle.std.specs.Prelude.{◌≡◌, ◌+◌, ◌<◌, ◌≤◌, ℕ, List, [], ◌∷◌, ◌++◌, length, Some, None, Result, Ok, Err, All}
use Rattle.std.specs.List.{slice_get}
use Rattle.flow_types.specs.declared.record.Flow.{Flow}
use Rattle.flow_types.specs.Map.{AreDistinct}
use Rattle.flow_types.specs.Size.{IsShape, Size}
use Rattle.group_search.specs.Home.{Home}
use Rattle.group_search.specs.Records.{AreHandled}
use Rattle.group_history.specs.declared.change.Change.{Change}
use Rattle.group_history.specs.declared.refused.UpdateRefused.{UpdateRefused}
use Rattle.group_history.specs.declared.update.Update.{Update}
use Rattle.group_history.specs.Acceptance.{change_of, grounds, refusal}
use Rattle.rib_owner.specs.Judging.{IsFor}
use Rattle.group_history.specs.History.{map_now}
use Rattle.rib_owner.specs.Rib.{IsRibOf, Rib}
use Rattle.flow_types.specs.Key.{IsKeyValue}
use Rattle.flow_types.specs.Limits.{most_turns}
use Rattle.delta_codec.specs.Journals.{IsJournalOf}
use Rattle.turn_log.specs.declared.sent.SentTurn.{SentTurn}
use Rattle.turn_log.specs.Room.{HaveRows}
use Rattle.turn_log.specs.Sent.{IsSentTurn}

-- what a contract sees of a sender: its owner, the octets of all messages, one after the other, and where those of each turn
-- begin
pub record SenderState : Type 0 where
  pub rib : Rib
  pub octets : List ℕ
  pub sent : List SentTurn

-- the changes that the owner accepted
abbrev pub changes_in : SenderState → List Change
changes_in sender = sender.rib.journal.changes

-- a map that a group can have: distinct keys, each of numbers that messages can hold, and nodes of the cluster
pub record IsGroupMap (nodes : ℕ) (flows : List Flow) : Type 0 where
  pub distinct : AreDistinct flows
  pub handled : AreHandled nodes flows
  pub keyed : All (λ (flow : Flow). IsKeyValue flow.key) flows

-- the owner of this number was opened with these flows, has accepted changes of its own groups, none of which asked for more
-- rows than were free, and the messages of each of its turns are kept
pub record IsSenderOf (size : Size) (number : ℕ) (flows : List Flow) (sender : SenderState) : Type 0 where
  pub rib : IsRibOf size flows sender.rib
  pub sized : sender.rib.size ≡ size
  pub numbered : sender.rib.number ≡ number
  pub shape : IsShape size.nodes size.blocks
  pub node : number < size.nodes
  pub few : length (changes_in sender) ≤ most_turns
  pub own : IsJournalOf size number flows (changes_in sender)
  pub rows : HaveRows size flows (changes_in sender)
  pub maps : (at : Home) → IsGroupMap size.nodes (map_now size flows (changes_in sender) at)
  pub one_each : length sender.sent ≡ length (changes_in sender)
  pub sent : (before : ℕ) (turn : SentTurn) → slice_get sender.sent before ≡ Some turn
      → IsSentTurn size number flows (changes_in sender) sender.octets (before + 1) turn

-- there are flows with which the owner was opened
pub record IsSender (size : Size) (number : ℕ) (sender : SenderState) : Type 0 where
  pub flows : List Flow
  pub stands : IsSenderOf size number flows sender

-- a sender's answer: the number of the next turn, whose change follows those before it, or why the update is refused
abbrev pub AnswersSender : Size → List Flow → (changes : List Change) → Update → (after : List Change) → Result ℕ UpdateRefused → Type 0
AnswersSender size flows changes update after (Ok turn) =
    (refusal update (grounds size flows changes update) ≡ None) × (turn ≡ length changes + 1) × (after ≡ changes ++ change_of size flows update ∷ [])
AnswersSender size flows changes update after (Err refused) = IsFor (refusal update (grounds size flows changes update)) refused
