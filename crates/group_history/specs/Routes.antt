-- What a group's map says of a packet: where its ingress may send it, and what a node answers.
use Rattle.std.specs.Prelude.{◌≡◌, ℕ, ◌<◌, List, Option, Some, None, IfSome, ◌==◌, if◌then◌else◌}
use Rattle.flow_types.specs.declared.key.FlowKey.{FlowKey}
use Rattle.flow_types.specs.declared.record.Flow.{Flow}
use Rattle.flow_types.specs.declared.record.Record.{Record}
use Rattle.flow_types.specs.Map.{Knows}

-- where an ingress that goes by this map may send a packet: a flow that is known to its handler, and one that isn't to any
-- of the nodes, or nowhere
pub record Route (nodes : ℕ) (flows : List Flow) (key : FlowKey) (to : Option ℕ) : Type 0 where
  pub known : (node : ℕ) (info : Record) → Knows flows key node info → to ≡ Some node
  pub unknown : ((node : ℕ) (info : Record) → ¬ Knows flows key node info) → IfSome to (λ node. node < nodes)

-- what a node answers by this map: the record, where it is the flow's handler, and else that the flow is unknown
abbrev pub Answer : List Flow → ℕ → FlowKey → Option Record → Type 0
Answer flows node key (Some info) = Knows flows key node info
Answer flows node key None = (info : Record) → ¬ Knows flows key node info

-- the record that a node has of what a map has at a key: that of a flow which it handles
abbrev pub handled_record : (node : ℕ) → Option Flow → Option Record
handled_record node None = None
handled_record node (Some flow) = if flow.node == node then Some flow.info else None
