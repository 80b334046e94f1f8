-- A record of a cluster gives no key a node that the cluster hasn't.
use Rattle.std.proofs.Common.{◌≡◌, ℕ, suc, ◌==◌, ◌<◌, Bool, true, false, cond, List, [], ◌∷◌, Option, Some, sym, subst, arith}
use Rattle.std.specs.Prelude.{All, IfSome, find, option_map}
use Rattle.std.proofs.lemmas.Bool.Decides.{nat_tests}
use Rattle.flow_types.specs.declared.key.FlowKey.{FlowKey}
use Rattle.flow_types.specs.Key.{number}
use Rattle.hash_family.specs.Hash.{pair}
use Rattle.group_search.specs.declared.record.GroupRecord.{GroupRecord}
use Rattle.group_search.specs.declared.record.GroupRecord.TheVariants.{Served, Fallback}
use Rattle.group_search.specs.declared.rows.Row.{Row}
use Rattle.group_search.specs.Decoding.{as_node, decode, node_of, value_of}
use Rattle.group_search.specs.Rows.{key_number}
use Rattle.group_search.specs.Records.{HasNodes}

abbrev IsBelow : (nodes : ℕ) → Option ℕ → Type 0
IsBelow nodes found = IfSome found (λ (node : ℕ). node < nodes)

value_below : (nodes value : ℕ) → IsBelow nodes (as_node nodes value)
value_below nodes value = grind (arith, nat_tests)

row_below : (nodes : ℕ) (key : FlowKey) (rows : List Row) → All (λ (row : Row). row.node < nodes) rows → IsBelow nodes (node_of key rows)
row_below nodes key [] below = tt
row_below nodes key (row ∷ rows) below = by (key_number row == number key) (row_below nodes key rows (λ k d low. below (suc k) d (omega arith)))
  where
    by : (same : Bool) → IsBelow nodes (node_of key rows)
        → IsBelow nodes (option_map (λ (row : Row). row.node) (cond same (Some row) (find (λ (row : Row). key_number row == number key) rows)))
    by true later = below 0 row (omega arith)
    by false later = later

pub decode_below : (nodes : ℕ) (content : GroupRecord) (key : FlowKey) → HasNodes nodes content → IsBelow nodes (decode content nodes key)
unfolding decode
decode_below nodes (Served pairs) key below = value_below nodes (value_of (pair key) pairs)
decode_below nodes (Fallback rows) key below = row_below nodes key rows below

pub answer_below : (nodes : ℕ) (content : GroupRecord) (key : FlowKey) (answer : Option ℕ) → HasNodes nodes content → answer ≡ decode content nodes key → IsBelow nodes answer
answer_below nodes content key answer below is = subst (IsBelow nodes) (sym is) (decode_below nodes content key below)
