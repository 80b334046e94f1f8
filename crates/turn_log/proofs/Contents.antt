-- The canonical record of a map that a group can have fits a message.
use Rattle.std.proofs.Common.{◌≡◌, ◌≢◌, ◌∙◌, ◌<◌, ◌≤◌, ℕ, Bool, true, false, cond, List, length, map, Option, Some, None, refl, subst, arith}
use Rattle.std.specs.Prelude.{All, nat_le}
use Rattle.std.proofs.lemmas.Bool.{leb-true}
use Rattle.std.proofs.lemmas.List.{length-map}
use Rattle.std.proofs.lemmas.List.Elements.{All-from_get_or, All-map}
use Rattle.std.proofs.lemmas.List.Sorted.{All-permutation, length_permutation}
use Rattle.flow_types.specs.declared.record.Flow.{Flow}
use Rattle.flow_types.specs.Key.{number, IsKeyValue}
use Rattle.flow_types.specs.Map.{HaveDistinctKeys}
use Rattle.flow_types.specs.Size.{Size, value_bits}
use Rattle.group_search.specs.declared.entry.Entry.{Entry}
use Rattle.group_search.specs.declared.entry.Pair.{Pair}
use Rattle.group_search.specs.declared.record.GroupRecord.{GroupRecord}
use Rattle.group_search.specs.declared.record.GroupRecord.TheVariants.{Served, Fallback}
use Rattle.group_search.specs.declared.rows.Row.{Row}
use Rattle.group_search.specs.Canon.{canonical, fallback, least_pairs, served_or}
use Rattle.group_search.specs.Limits.{most_rows}
use Rattle.group_search.specs.Records.{content_of, entries, entry_of}
use Rattle.group_search.specs.Rows.{entry_key, row_of, rows_of}
use Rattle.group_search.specs.Served.{zero_pair}
use Rattle.group_search.specs.Serving.{IsLeast}
use Rattle.group_search.specs.Words.{IsPair}
use Rattle.group_search.proofs.Chosen.{are_least, two_unserved}
use Rattle.group_search.proofs.Mapped.{all_pairs_mapped}
use Rattle.group_search.proofs.Rising.{rows_permuted, rows_rising}
use Rattle.delta_codec.specs.Fits.{ContentFits}
use Rattle.delta_codec.specs.Values.{IsContent}
use Rattle.turn_log.specs.Sender.{IsGroupMap}

-- the record fits a message of this shape, and so do its numbers
pub record IsSendable (size : Size) (content : GroupRecord) : Type 0 where
  pub fits : ContentFits size content
  pub sized : IsContent content

no_flow : Flow
no_flow = record {
  key = record { source = 0; destination = 0; source_port = 0; destination_port = 0; protocol = 0 };
  node = 0;
  info = record { teid = 0; base = 0 };
}

module _ (size : Size) (flows : List Flow) (is : IsGroupMap size.nodes flows) where
  all_rows : (P : Row → Type 0) → All (λ (flow : Flow). P (row_of (entry_of flow))) flows → All P (rows_of (entries flows))
  all_rows P each =
      All-permutation P (map row_of (entries flows)) (rows_of (entries flows)) (rows_permuted (entries flows))
      (All-map P row_of (entries flows) (All-map (λ (e : Entry). P (row_of e)) entry_of flows each))

  many_rows : length (rows_of (entries flows)) ≡ length (entries flows)
  many_rows = length_permutation (map row_of (entries flows)) (rows_of (entries flows)) (rows_permuted (entries flows)) ∙ length-map (entries flows) row_of

  distinct_entries : HaveDistinctKeys entry_key (entries flows)
  distinct_entries = all_pairs_mapped (λ (a : Entry) (b : Entry). number a.key ≢ number b.key) entry_of no_flow flows is.distinct

  rows_sendable : least_pairs (value_bits size.nodes) 0 (entries flows) ≡ None → length (entries flows) ≤ most_rows → IsSendable size (Fallback (rows_of (entries flows)))
  rows_sendable none few = record {
    fits = record {
      enough = omega (arith, many_rows, two_unserved (value_bits size.nodes) (entries flows) none);
      few = omega (arith, many_rows);
      rising = rows_rising (entries flows) distinct_entries;
      are_nodes = all_rows (λ (row : Row). row.node < size.nodes) is.handled;
    };
    sized = all_rows (λ (row : Row). IsKeyValue row.key) is.keyed;
  }

  pair_sized : (bit : ℕ) (pair : Pair) → IsLeast bit (entries flows) pair → IsPair pair
  pair_sized bit pair least = record { index = least.in_range; array = least.octet }

  pairs_sendable : (pairs : List Pair) → least_pairs (value_bits size.nodes) 0 (entries flows) ≡ Some pairs → IsSendable size (Served pairs)
  pairs_sendable pairs found =
      let least = are_least (entries flows) (value_bits size.nodes) pairs found in
      record {
        fits = least.one_each;
        sized = All-from_get_or IsPair pairs zero_pair (λ (bit : ℕ) (low : bit < length pairs). pair_sized bit _ (least.least bit (omega (arith, least.one_each))));
      }

  fallback_sendable : (few : Bool) → nat_le (length (entries flows)) most_rows ≡ few → least_pairs (value_bits size.nodes) 0 (entries flows) ≡ None
      → (content : GroupRecord) → cond few (Some (Fallback (rows_of (entries flows)))) None ≡ Some content → IsSendable size content
  fallback_sendable true test none content found =
      let same : Fallback (rows_of (entries flows)) ≡ content = cc in
      subst (IsSendable size) same (rows_sendable none (leb-true (length (entries flows)) most_rows test))
  fallback_sendable false test none content found = absurd cc

  case_sendable : (pairs : Option (List Pair)) → least_pairs (value_bits size.nodes) 0 (entries flows) ≡ pairs
      → (content : GroupRecord) → served_or pairs (fallback (entries flows)) ≡ Some content → IsSendable size content
  unfolding fallback
  case_sendable (Some pairs) is_pairs content found =
      let same : Served pairs ≡ content = cc in
      subst (IsSendable size) same (pairs_sendable pairs is_pairs)
  case_sendable None none content found = fallback_sendable (nat_le (length (entries flows)) most_rows) refl none content found

  -- the canonical record of the map is sent as it is
  pub sendable : (content : GroupRecord) → content_of size.nodes flows ≡ Some content → IsSendable size content
  unfolding content_of canonical
  sendable content found = case_sendable (least_pairs (value_bits size.nodes) 0 (entries flows)) refl content found
