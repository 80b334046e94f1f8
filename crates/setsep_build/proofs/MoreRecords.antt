-- The records and the rows of a block's groups.
use Rattle.std.proofs.Common.{ℕ, ◌≡◌, ◌≢◌, ◌+◌, ◌≤◌, true, List, [], ◌++◌, length, Option, Some, None, is_some, refl, arith}
use Rattle.std.specs.Prelude.{filter, option_to_list}
use Rattle.std.proofs.lemmas.List.{length-map}
use Rattle.std.proofs.lemmas.List.Kept.{AllPairs-filter}
use Rattle.std.proofs.lemmas.List.Sums.{length-filter, count_by-le-length}
use Rattle.flow_types.specs.Key.{number}
use Rattle.flow_types.specs.Map.{HaveDistinctKeys}
use Rattle.group_search.specs.Rows.{entry_key}
use Rattle.group_search.specs.declared.entry.Entry.{Entry}
use Rattle.group_search.specs.declared.record.GroupRecord.{GroupRecord}
use Rattle.group_search.specs.Limits.{most_rows}
use Rattle.group_search.specs.Build.{rows_needed}
use Rattle.group_search.specs.Canon.{canonical}
use Rattle.group_search.proofs.NeededRows.{without_record}
use Rattle.group_search.proofs.Mapped.{all_pairs_mapped}
use Rattle.setsep_build.specs.declared.placed.Placed.{Placed}
use Rattle.setsep_build.specs.Placing.{entry_in, gathered, is_group, placed_key}
use Rattle.setsep_build.specs.Block.{needed_at, needed_below, group_record, records_below}
use Rattle.setsep_build.proofs.Lists.{AreAll, somes_all, somes_more, sum_more}
use Rattle.setsep_build.proofs.MoreGathered.{nobody}

module _ (bits : ℕ) (groups : List ℕ) (all : List Placed) where
  pub no_records : records_below 0 bits groups all ≡ []
  unfolding records_below
  no_records = refl

  pub none_needed : needed_below 0 bits groups all ≡ 0
  unfolding needed_below
  none_needed = refl

  pub one_record_more : (n : ℕ) → records_below (n + 1) bits groups all ≡ records_below n bits groups all ++ option_to_list (group_record bits groups all n)
  unfolding records_below
  one_record_more n = somes_more (group_record bits groups all) n

  pub more_needed : (n : ℕ) → needed_below (n + 1) bits groups all ≡ needed_below n bits groups all + needed_at bits groups all n
  unfolding needed_below
  more_needed n = sum_more (needed_at bits groups all) n

  has_record-case : (entries : List Entry) (found : Option GroupRecord) → canonical bits entries ≡ found → rows_needed bits entries ≤ most_rows → is_some found ≡ true
  has_record-case entries (Some content) is few = refl
  has_record-case entries None is few = let large = without_record entries bits is in absurd (omega (arith, large.0, large.1))

  -- a group that needs few rows has a record
  has_record : (group : ℕ) → needed_at bits groups all group ≤ most_rows → is_some (group_record bits groups all group) ≡ true
  has_record group few = has_record-case (gathered groups group all) (group_record bits groups all group) refl few

  -- where the groups need few rows in all, each has a record
  pub all_records : (n : ℕ) → needed_below n bits groups all ≤ most_rows → AreAll (group_record bits groups all) 0 n (records_below n bits groups all)
  unfolding records_below needed_below
  all_records n few = somes_all most_rows (group_record bits groups all) (needed_at bits groups all) has_record n 0 few

module _ (groups : List ℕ) (group : ℕ) (all : List Placed) where
  pub gathered_few : length (gathered groups group all) ≤ length all
  unfolding gathered
  gathered_few =
      omega (arith, length-map (filter (is_group groups group) all) entry_in, length-filter (is_group groups group) all, count_by-le-length (is_group groups group) all)

  pub gathered_distinct : HaveDistinctKeys placed_key all → HaveDistinctKeys entry_key (gathered groups group all)
  unfolding gathered
  gathered_distinct apart =
      all_pairs_mapped (λ (a : Entry) (b : Entry). number a.key ≢ number b.key) entry_in nobody (filter (is_group groups group) all)
      (AllPairs-filter (λ (a : Placed) (b : Placed). number a.key ≢ number b.key) (is_group groups group) all apart)
