-- The messages of a turn, as the owner gives it.
use Rattle.std.specs.Prelude.{◌==◌, ℕ, Bool, false, Option, Some, None}
use Rattle.group_search.specs.declared.record.GroupRecord.{GroupRecord}
use Rattle.rib_owner.specs.declared.turn.Turn.{Turn}
use Rattle.delta_codec.specs.declared.message.FibMessage.{FibMessage}
use Rattle.delta_codec.specs.declared.message.FibOp.{FibOp}
use Rattle.delta_codec.specs.declared.message.TableMessage.{TableMessage}
use Rattle.delta_codec.specs.Op.{op_of_move}
use Rattle.turn_log.specs.declared.message.TurnHead.{TurnHead}

-- a message for the nodes' tables with these fields at its beginning
abbrev pub table_with : TurnHead → GroupRecord → TableMessage
table_with head content = record { owner = head.owner; turn = head.turn; block = head.block; group = head.group; content = content }

-- a message for a node's FIB with these fields at its beginning
abbrev pub fib_with : TurnHead → FibOp → FibMessage
fib_with head op = record { owner = head.owner; turn = head.turn; block = head.block; group = head.group; op = op }

-- the fields at the beginning of each of a turn's messages
abbrev pub head_of : (owner : ℕ) → Turn → TurnHead
head_of owner turn = record { owner = owner; turn = turn.number; block = turn.change.block; group = turn.change.group }

-- the key leaves the node
abbrev pub leaves : (node : ℕ) → (from : Option ℕ) → Bool
leaves node None = false
leaves node (Some from) = from == node

-- what a turn means for a node
abbrev pub op_in : (node : ℕ) → Turn → FibOp
op_in node turn = op_of_move node turn.change.key turn.change.to (leaves node turn.fib.drop)
