-- What a group's record says of a key.
use Rattle.std.specs.Prelude.{ℕ, ◌+◌, ◌*◌, ◌==◌, List, [], ◌∷◌, Option, Some, None, if◌then◌else◌, nat_lt, find, option_map, option_and_then}
use Rattle.std.specs.Int.{bit_at}
use Rattle.flow_types.specs.declared.key.FlowKey.{FlowKey}
use Rattle.flow_types.specs.Key.{number}
use Rattle.hash_family.specs.Hash.{pair, position}
use Rattle.hash_family.specs.declared.pairing.HashPair.{HashPair}
use Rattle.group_search.specs.declared.entry.Pair.{Pair}
use Rattle.group_search.specs.declared.rows.Row.{Row}
use Rattle.group_search.specs.declared.record.GroupRecord.{GroupRecord}
use Rattle.group_search.specs.declared.record.GroupRecord.TheVariants.{Served, Fallback}
use Rattle.group_search.specs.Rows.{key_number}
use Rattle.flow_types.specs.Size.{Size}

-- the number whose bit b is the bit of the b-th pair's array at the position under its index
unfoldable pub value_of : HashPair → List Pair → ℕ
value_of hashes [] = 0
value_of hashes (p ∷ pairs) = bit_at p.array (position hashes p.index) + 2 * value_of hashes pairs

-- the node of the row with this key
abbrev pub node_of : FlowKey → List Row → Option ℕ
node_of key rows = option_map (λ row. row.node) (find (λ row. key_number row == number key) rows)

-- the number, where it is one of a node
abbrev pub as_node : (nodes value : ℕ) → Option ℕ
as_node nodes value = if nat_lt value nodes then Some value else None

-- the node that the record gives the key, if any
unfoldable pub decode : GroupRecord → (nodes : ℕ) → FlowKey → Option ℕ
decode (Served pairs) nodes key = as_node nodes (value_of (pair key) pairs)
decode (Fallback rows) nodes key = node_of key rows

-- the node that a record gives the key, where there is a record
abbrev pub decoded : Size → FlowKey → Option GroupRecord → Option ℕ
decoded size key content = option_and_then (λ (content : GroupRecord). decode content size.nodes key) content
