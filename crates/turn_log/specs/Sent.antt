-- The messages of a turn, and where they begin among the octets.
use Rattle.std.specs.Prelude.{◌≡◌, ◌==◌, ◌+◌, ◌<◌, ◌≤◌, ℕ, if◌then◌else◌, List, ◌++◌, length, drop, Option, Some, None}
use Rattle.flow_types.specs.declared.record.Flow.{Flow}
use Rattle.flow_types.specs.Size.{Size}
use Rattle.group_history.specs.declared.change.Change.{Change}
use Rattle.delta_codec.specs.declared.message.FibMessage.{FibMessage}
use Rattle.delta_codec.specs.declared.message.Message.{Message}
use Rattle.delta_codec.specs.declared.message.Message.TheVariants.{Table, Fib}
use Rattle.delta_codec.specs.declared.message.TableMessage.{TableMessage}
use Rattle.delta_codec.specs.Spelling.{BeginsWith}
use Rattle.delta_codec.specs.Values.{IsMessage}
use Rattle.delta_codec.specs.Messages.{IsTableMessageOf, IsFibMessageOf}
use Rattle.turn_log.specs.declared.sent.SentTo.{SentTo}
use Rattle.turn_log.specs.declared.sent.SentTurn.{SentTurn}

-- where the message for a node begins: here, if there is one of its own, and else elsewhere
abbrev pub place_for : (node : ℕ) → Option SentTo → (elsewhere : ℕ) → ℕ
place_for node None elsewhere = elsewhere
place_for node (Some own) elsewhere = if own.node == node then own.at else elsewhere

-- where a turn's message for a node's FIB begins
abbrev pub fib_place : (node : ℕ) → SentTurn → ℕ
fib_place node sent = place_for node sent.put (place_for node sent.drop sent.nothing)

-- the message begins at this place of the octets
pub record IsSpelledAt (size : Size) (octets : List ℕ) (at : ℕ) (message : Message) : Type 0 where
  pub sized : IsMessage message
  pub within : at ≤ length octets
  pub used : ℕ
  pub begins : BeginsWith size (drop at octets) message used

-- a turn's message for the nodes' tables begins at this place
pub record HasTableMessage (size : Size) (owner : ℕ) (flows : List Flow) (changes : List Change) (octets : List ℕ) (turn at : ℕ) : Type 0 where
  pub message : TableMessage
  pub of_turn : IsTableMessageOf size owner flows changes turn message
  pub spelled : IsSpelledAt size octets at (Table message)

-- a turn's message for a node's FIB begins at this place
pub record HasFibMessage (size : Size) (node owner : ℕ) (flows : List Flow) (changes : List Change) (octets : List ℕ) (turn at : ℕ) : Type 0 where
  pub message : FibMessage
  pub of_turn : IsFibMessageOf size node owner flows changes turn message
  pub spelled : IsSpelledAt size octets at (Fib message)

-- a turn's messages begin where it says
pub record IsSentTurn (size : Size) (owner : ℕ) (flows : List Flow) (changes : List Change) (octets : List ℕ) (turn : ℕ) (sent : SentTurn) : Type 0 where
  pub table : HasTableMessage size owner flows changes octets turn sent.table
  pub fib : (node : ℕ) → node < size.nodes → HasFibMessage size node owner flows changes octets turn (fib_place node sent)
