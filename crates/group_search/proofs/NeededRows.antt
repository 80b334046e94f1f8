-- How many rows the canonical record of entries has.
use Rattle.std.proofs.Common.{◌≡◌, ◌<◌, ◌≤◌, ◌∙◌, ℕ, Bool, true, false, cond, List, length, map, Option, Some, None, is_some, refl, ap, arith, ◌-◌}
use Rattle.std.specs.Prelude.{nat_le}
use Rattle.std.proofs.lemmas.Bool.Decides.{nat_tests}
use Rattle.std.proofs.lemmas.List.{length-map}
use Rattle.std.proofs.lemmas.List.Sorted.{length_permutation}
use Rattle.group_search.specs.declared.entry.Entry.{Entry}
use Rattle.group_search.specs.declared.entry.Pair.{Pair}
use Rattle.group_search.specs.declared.record.GroupRecord.{GroupRecord}
use Rattle.group_search.specs.declared.record.GroupRecord.TheVariants.{Served, Fallback}
use Rattle.group_search.specs.Limits.{most_rows}
use Rattle.group_search.specs.Rows.{row_of, rows_of}
use Rattle.group_search.specs.Canon.{canonical, fallback, is_separable, least_pairs, served_or, rows_in}
use Rattle.group_search.specs.Build.{rows_needed}
use Rattle.group_search.proofs.Rising.{rows_permuted}
use Rattle.flow_types.specs.declared.record.Flow.{Flow}
use Rattle.group_search.specs.Records.{entries, entry_of}

length-rows_of : (entries : List Entry) → length (rows_of entries) ≡ length entries
length-rows_of entries = length_permutation (map row_of entries) (rows_of entries) (rows_permuted entries) ∙ length-map entries row_of

same_rows : (a b : GroupRecord) → Some a ≡ Some b → rows_in b ≡ rows_in a
same_rows a b e = let same : b ≡ a = cc in ap rows_in same

module _ (entries : List Entry) where
  fallback_rows : (few : Bool) (content : GroupRecord) → cond few (Some (Fallback (rows_of entries))) None ≡ Some content → rows_in content ≡ length entries
  fallback_rows true content e = same_rows (Fallback (rows_of entries)) content e ∙ length-rows_of entries
  fallback_rows false content e = cc

  kept_rows : (pairs : Option (List Pair)) (content : GroupRecord) → served_or pairs (fallback entries) ≡ Some content
      → rows_in content ≡ cond (is_some pairs) 0 (length entries)
  unfolding fallback
  kept_rows (Some pairs) content e = same_rows (Served pairs) content e
  kept_rows None content e = fallback_rows (nat_le (length entries) most_rows) content e

  -- a canonical record has the rows that the entries need
  pub rows_of_canonical : (bits : ℕ) (content : GroupRecord) → canonical bits entries ≡ Some content → rows_in content ≡ rows_needed bits entries
  unfolding canonical rows_needed is_separable
  rows_of_canonical bits content e = kept_rows (least_pairs bits 0 entries) content e

  fallback_none : (few : Bool) → nat_le (length entries) most_rows ≡ few → cond few (Some (Fallback (rows_of entries))) None ≡ None → most_rows < length entries
  fallback_none true test e = cc
  fallback_none false test e = grind (arith, nat_tests)

  kept_none : (pairs : Option (List Pair)) → served_or pairs (fallback entries) ≡ None
      → (cond (is_some pairs) 0 (length entries) ≡ length entries) × (most_rows < length entries)
  unfolding fallback
  kept_none (Some pairs) e = cc
  kept_none None e = (refl, fallback_none (nat_le (length entries) most_rows) refl e)

  -- entries without a canonical record need a row each, which are too many
  pub without_record : (bits : ℕ) → canonical bits entries ≡ None → (rows_needed bits entries ≡ length entries) × (most_rows < length entries)
  unfolding canonical rows_needed is_separable
  without_record bits e = kept_none (least_pairs bits 0 entries) e

  one_each : (served : Bool) → cond served 0 (length entries) ≤ length entries
  one_each true = omega arith
  one_each false = omega arith

  -- entries need at most a row each
  pub few_needed : (bits : ℕ) → rows_needed bits entries ≤ length entries
  unfolding rows_needed
  few_needed bits = one_each (is_separable bits entries)

pub length-entries : (flows : List Flow) → length (entries flows) ≡ length flows
length-entries flows = length-map flows entry_of
