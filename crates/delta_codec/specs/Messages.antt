-- The messages that an owner's changes make for the nodes: the same for each node's table, and one for each node's FIB.
use Rattle.std.specs.Prelude.{◌≡◌, ℕ, ◌+◌, ◌++◌, List, [], ◌∷◌, length, take, Some}
use Rattle.std.specs.List.{slice_get}
use Rattle.flow_types.specs.declared.record.Flow.{Flow}
use Rattle.flow_types.specs.Size.{Size}
use Rattle.group_search.specs.Home.{opening}
use Rattle.group_history.specs.declared.change.Change.{Change}
use Rattle.group_history.specs.Change.{changed_group}
use Rattle.group_history.specs.History.{now, content_after}
use Rattle.delta_codec.specs.declared.message.Message.TheVariants.{Table, Fib}
use Rattle.delta_codec.specs.declared.message.TableMessage.{TableMessage}
use Rattle.delta_codec.specs.Fits.{Fits}
use Rattle.delta_codec.specs.declared.message.FibMessage.{FibMessage}
use Rattle.delta_codec.specs.Op.{op_for}

-- ---- for the tables

-- the message fits the shape
abbrev pub TableMessageFits : Size → TableMessage → Type 0
TableMessageFits size message = Fits size (Table message)

-- the message of an owner's change after these others: the owner's next turn, and the canonical record of the new map of the
-- group that the change is of
pub record IsTableMessage (size : Size) (owner : ℕ) (flows : List Flow) (before : List Change) (change : Change) (message : TableMessage) : Type 0 where
  pub of_owner : message.owner ≡ owner
  pub next : message.turn ≡ length before + 1
  pub of_block : message.block ≡ change.block
  pub of_group : message.group ≡ change.group
  pub canonical : content_after size flows (before ++ change ∷ []) (changed_group change) ≡ Some message.content

-- the message of this turn among an owner's changes
pub record IsTableMessageOf (size : Size) (owner : ℕ) (flows : List Flow) (changes : List Change) (turn : ℕ) (message : TableMessage) : Type 0 where
  pub before : ℕ
  pub change : Change
  pub numbered : turn ≡ before + 1
  pub there : slice_get changes before ≡ Some change
  pub says : IsTableMessage size owner flows (take before changes) change message

-- ---- for a node's FIB

-- the message fits the shape
abbrev pub FibMessageFits : Size → FibMessage → Type 0
FibMessageFits size message = Fits size (Fib message)

-- the message is the owner's next turn for who has taken this many
pub record IsNextTurn (owner taken : ℕ) (message : FibMessage) : Type 0 where
  pub of_owner : message.owner ≡ owner
  pub next : message.turn ≡ taken + 1

-- the message to a node of an owner's change after these others
abbrev pub message_after : Size → (node owner : ℕ) → List Flow → (before : List Change) → Change → FibMessage
message_after size node owner flows before change = record {
  owner = owner;
  turn = length before + 1;
  block = change.block;
  group = change.group;
  op = op_for node change (now (opening size.blocks flows (changed_group change)) before (changed_group change));
}

-- the messages to a node of an owner's later changes after those before, one a turn
unfoldable pub messages_after : Size → (node owner : ℕ) → List Flow → (before later : List Change) → List FibMessage
messages_after size node owner flows before [] = []
messages_after size node owner flows before (change ∷ later) =
    message_after size node owner flows before change ∷ messages_after size node owner flows (before ++ change ∷ []) later

-- the message of this turn for a node's FIB, among an owner's changes
pub record IsFibMessageOf (size : Size) (node owner : ℕ) (flows : List Flow) (changes : List Change) (turn : ℕ) (message : FibMessage) : Type 0 where
  pub before : ℕ
  pub change : Change
  pub numbered : turn ≡ before + 1
  pub there : slice_get changes before ≡ Some change
  pub says : message ≡ message_after size node owner flows (take before changes) change
