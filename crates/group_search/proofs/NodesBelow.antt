-- A record of flows at the first nodes has no other nodes, and gives no key one.
use Rattle.std.proofs.Common.{◌≡◌, ℕ, ◌<◌, Bool, true, false, cond, List, length, map, Option, Some, None, refl, subst}
use Rattle.std.specs.Prelude.{All, IfSome, nat_le}
use Rattle.std.proofs.lemmas.List.Elements.{All-map}
use Rattle.std.proofs.lemmas.List.Sorted.{All-permutation}
use Rattle.flow_types.specs.declared.key.FlowKey.{FlowKey}
use Rattle.flow_types.specs.declared.record.Flow.{Flow}
use Rattle.flow_types.specs.Size.{Size, value_bits}
use Rattle.group_search.specs.declared.entry.Entry.{Entry}
use Rattle.group_search.specs.declared.entry.Pair.{Pair}
use Rattle.group_search.specs.declared.record.GroupRecord.{GroupRecord}
use Rattle.group_search.specs.declared.record.GroupRecord.TheVariants.{Served, Fallback}
use Rattle.group_search.specs.declared.rows.Row.{Row}
use Rattle.group_search.specs.Limits.{most_rows}
use Rattle.group_search.specs.Canon.{canonical, fallback, least_pairs, served_or}
use Rattle.group_search.specs.Records.{AreHandled, content_of, entries, entry_of, HasNodes}
use Rattle.group_search.specs.Rows.{row_of, rows_of}
use Rattle.group_search.proofs.Rising.{rows_permuted}
use Rattle.group_search.proofs.Below.{decode_below}
use Rattle.group_search.specs.Decoding.{decoded}

module _ (nodes : ℕ) (flows : List Flow) (handled : AreHandled nodes flows) where
  abbrev IsLow : Row → Type 0
  IsLow row = row.node < nodes

  rows_low : All IsLow (rows_of (entries flows))
  rows_low =
      All-permutation IsLow (map row_of (entries flows)) (rows_of (entries flows)) (rows_permuted (entries flows))
      (All-map IsLow row_of (entries flows) (All-map (λ (entry : Entry). IsLow (row_of entry)) entry_of flows handled))

  fallback_nodes : (few : Bool) (content : GroupRecord) → cond few (Some (Fallback (rows_of (entries flows)))) None ≡ Some content → HasNodes nodes content
  fallback_nodes true content e = let same : Fallback (rows_of (entries flows)) ≡ content = cc in subst (HasNodes nodes) same rows_low
  fallback_nodes false content e = absurd cc

  canonical_nodes : (pairs : Option (List Pair)) (content : GroupRecord) → served_or pairs (fallback (entries flows)) ≡ Some content → HasNodes nodes content
  unfolding fallback
  canonical_nodes (Some pairs) content e = let same : Served pairs ≡ content = cc in subst (HasNodes nodes) same tt
  canonical_nodes None content e = fallback_nodes (nat_le (length (entries flows)) most_rows) content e

  pub content_nodes : (content : GroupRecord) → content_of nodes flows ≡ Some content → HasNodes nodes content
  unfolding content_of canonical
  content_nodes content e = canonical_nodes (least_pairs (value_bits nodes) 0 (entries flows)) content e

-- so their record gives none
pub decoded_below : (size : Size) (flows : List Flow) (key : FlowKey) (node : ℕ) → AreHandled size.nodes flows
    → decoded size key (content_of size.nodes flows) ≡ Some node → node < size.nodes
decoded_below size flows key node handled = by (content_of size.nodes flows) refl
  where
    by : (content : Option GroupRecord) → content_of size.nodes flows ≡ content → decoded size key content ≡ Some node → node < size.nodes
    by None is there = absurd cc
    by (Some content) is there =
        subst (λ (found : Option ℕ). IfSome found (λ (node : ℕ). node < size.nodes)) there (decode_below size.nodes content key (content_nodes size.nodes flows handled content is))
