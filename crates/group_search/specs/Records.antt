-- The record of a list of flows with distinct keys, and of each group that the flows of a cluster open.
use Rattle.std.specs.Prelude.{ℕ, ◌<◌, List, map, Option, All}
use Rattle.flow_types.specs.declared.record.Flow.{Flow}
use Rattle.flow_types.specs.Size.{Size, value_bits}
use Rattle.hash_family.specs.Hash.{pair}
use Rattle.group_search.specs.declared.entry.Entry.{Entry}
use Rattle.group_search.specs.declared.record.GroupRecord.{GroupRecord}
use Rattle.group_search.specs.Canon.{canonical}
use Rattle.group_search.specs.Home.{Home, opening}
use Rattle.group_search.specs.declared.record.GroupRecord.TheVariants.{Served, Fallback}
use Rattle.group_search.specs.declared.rows.Row.{Row}

-- each flow's handler is a node of the cluster, which has this number of nodes
abbrev pub AreHandled : (nodes : ℕ) → List Flow → Type 0
AreHandled nodes flows = All (λ (flow : Flow). flow.node < nodes) flows

-- the flow as an entry of a group
abbrev pub entry_of : Flow → Entry
entry_of flow = record { pair = pair flow.key; key = flow.key; node = flow.node }

abbrev pub entries : List Flow → List Entry
entries flows = map entry_of flows

-- the canonical record of a group that has these flows; `None` where it is too large for one
unfoldable pub content_of : (nodes : ℕ) → List Flow → Option GroupRecord
content_of nodes flows = canonical (value_bits nodes) (entries flows)

-- the canonical record of the flows that have this home
unfoldable pub record_of : Size → List Flow → Home → Option GroupRecord
record_of size flows at = content_of size.nodes (opening size.blocks flows at)

-- each of the record's rows goes to a node of the cluster, which has this number of nodes
abbrev pub HasNodes : (nodes : ℕ) → GroupRecord → Type 0
HasNodes nodes (Served pairs) = Unit {0}
HasNodes nodes (Fallback rows) = All (λ (row : Row). row.node < nodes) rows
