-- What a change of a group's map means for one node.
use Rattle.std.specs.Prelude.{⊤, ℕ, ◌==◌, Bool, false, if◌then◌else◌, List, Option, Some, None}
use Rattle.flow_types.specs.declared.key.FlowKey.{FlowKey}
use Rattle.flow_types.specs.declared.record.Flow.{Flow}
use Rattle.flow_types.specs.declared.record.Record.{Record}
use Rattle.flow_types.specs.Map.{flow_at}
use Rattle.group_history.specs.declared.change.Change.{Change}
use Rattle.delta_codec.specs.declared.message.FibOp.{FibOp}
use Rattle.delta_codec.specs.declared.message.FibOp.TheVariants.{Nothing, Put, Drop}

-- the flow that was there, if there was one, is the node's
abbrev pub was_handled : (node : ℕ) → Option Flow → Bool
was_handled node None = false
was_handled node (Some flow) = flow.node == node

-- the key goes from the node that had it, and is nothing to another
abbrev pub op_of_loss : FlowKey → (had : Bool) → FibOp
op_of_loss key had = if had then Drop key else Nothing

-- what it means for a node that the key is now here, or nowhere, where the node had the key before or had not
abbrev pub op_of_move : (node : ℕ) → FlowKey → Option (ℕ × Record) → (had : Bool) → FibOp
op_of_move node key None had = op_of_loss key had
op_of_move node key (Some to) had = if to.0 == node then Put key to.1 else op_of_loss key had

-- what a change means for a node, where the change's group had this map before it: Put where the change sets the key to
-- the node, Drop where it doesn't and the node had the key, and else Nothing
unfoldable pub op_for : (node : ℕ) → Change → (before : List Flow) → FibOp
op_for node change before = op_of_move node change.key change.to (was_handled node (flow_at change.key before))

-- the node has one more record, or another one
abbrev pub IsPut : FibOp → Type 0
IsPut Nothing = ⊥
IsPut (Put key info) = ⊤
IsPut (Drop key) = ⊥
