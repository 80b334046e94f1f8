-- What an owner sends to a node: of each of its turns a message for the node's table, and one for its FIB.
use Rattle.std.specs.Prelude.{◌≡◌, ℕ, ◌+◌, List, [], ◌∷◌, ◌++◌, length, Some}
use Rattle.std.specs.List.{slice_get}
use Rattle.flow_types.specs.declared.record.Flow.{Flow}
use Rattle.flow_types.specs.Size.{Size}
use Rattle.group_history.specs.declared.change.Change.{Change}
use Rattle.delta_codec.specs.declared.message.FibMessage.{FibMessage}
use Rattle.delta_codec.specs.declared.message.Message.{Message}
use Rattle.delta_codec.specs.declared.message.Message.TheVariants.{Table, Fib}
use Rattle.delta_codec.specs.declared.message.TableMessage.{TableMessage}
use Rattle.delta_codec.specs.Messages.{IsTableMessageOf, IsFibMessageOf}
use Rattle.replica_shard.specs.Turns.{AreTableMessagesOf}
use Rattle.turn_log.specs.Sender.{IsSenderOf, SenderState, changes_in}
use Rattle.node_link.specs.Ends.{End}
use Rattle.turn_relay.specs.Each.{AllFrom}

-- the messages for tables, and those for FIBs, in their order
abbrev pub tables_in : List Message → List TableMessage
tables_in [] = []
tables_in (Table message ∷ messages) = message ∷ tables_in messages
tables_in (Fib message ∷ messages) = tables_in messages

abbrev pub fibs_in : List Message → List FibMessage
fibs_in [] = []
fibs_in (Table message ∷ messages) = fibs_in messages
fibs_in (Fib message ∷ messages) = message ∷ fibs_in messages

-- these are the messages for a node's FIB of an owner's first turns, in their order
abbrev pub AreFibMessagesOf : Size → (node owner : ℕ) → List Flow → List Change → List FibMessage → Type 0
AreFibMessagesOf size node owner flows changes messages =
    (i : ℕ) (message : FibMessage) → slice_get messages i ≡ Some message → IsFibMessageOf size node owner flows changes (i + 1) message

-- these messages tell a node of an owner's first turns, up to this number, of each for its table and for its FIB
pub record AreSent (size : Size) (owner node : ℕ) (flows : List Flow) (changes : List Change) (turns : ℕ) (messages : List Message) : Type 0 where
  pub tables : AreTableMessagesOf size owner flows changes (tables_in messages)
  pub fibs : AreFibMessagesOf size node owner flows changes (fibs_in messages)
  pub all_tables : length (tables_in messages) ≡ turns
  pub all_fibs : length (fibs_in messages) ≡ turns

-- what was sent to each node, from the first on, is all turns of the owner
abbrev pub AreAllSent : Size → (owner : ℕ) → List Flow → List Change → List End → Type 0
AreAllSent size owner flows changes ends = AllFrom (λ (node : ℕ) (end : End). AreSent size owner node flows changes (length changes) end.messages) 0 ends

-- both messages of a turn were sent to a node, the one for its table first
pub record TellsTurn (sender : SenderState) (turn node : ℕ) (before after : End) : Type 0 where
  pub table : TableMessage
  pub fib : FibMessage
  pub whole : after.messages ≡ (before.messages ++ Table table ∷ []) ++ Fib fib ∷ []
  pub of_table : (size : Size) (owner : ℕ) (flows : List Flow) → IsSenderOf size owner flows sender → IsTableMessageOf size owner flows (changes_in sender) turn table
  pub of_fib : (size : Size) (owner : ℕ) (flows : List Flow) → IsSenderOf size owner flows sender → IsFibMessageOf size node owner flows (changes_in sender) turn fib

-- so it is for the nodes from this one on
abbrev pub TellsEach : SenderState → (turn node : ℕ) → (before after : List End) → Type 0
TellsEach sender turn node [] [] = Unit {0}
TellsEach sender turn node [] (after ∷ more) = ⊥
TellsEach sender turn node (before ∷ rest) [] = ⊥
TellsEach sender turn node (before ∷ rest) (after ∷ more) = TellsTurn sender turn node before after × TellsEach sender turn (node + 1) rest more
