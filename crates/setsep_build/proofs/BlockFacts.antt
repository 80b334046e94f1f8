-- A block's image from its choices, its records and the rows that they need.
use Rattle.std.proofs.Common.{ℕ, ◌≡◌, ◌∙◌, ◌≤◌, ◌+◌, List, length, ap, arith}
use Rattle.block_layout.specs.Limits.{group_count, most_keys}
use Rattle.group_search.specs.Limits.{most_rows}
use Rattle.group_search.specs.declared.record.GroupRecord.{GroupRecord}
use Rattle.setsep_build.specs.declared.placed.Placed.{Placed}
use Rattle.setsep_build.specs.Placing.{groups_of}
use Rattle.setsep_build.specs.Block.{IsImageOf, block_choices, needed_below, needed_in, group_record, records_below}
use Rattle.setsep_build.proofs.Lists.{AreAll}
use Rattle.setsep_build.proofs.MoreRecords.{all_records}

module _ (bits : ℕ) (all : List Placed) (choices groups : List ℕ) (kept : List GroupRecord) (needed : ℕ)
    (choices_are : choices ≡ block_choices all) (groups_are : groups ≡ groups_of choices)
    (kept_are : kept ≡ records_below group_count bits groups all) (needed_is : needed ≡ needed_below group_count bits groups all) where
  pub whole_needed : needed ≡ needed_in bits all
  unfolding needed_in
  whole_needed = needed_is ∙ ap (λ (gs : List ℕ). needed_below group_count bits gs all) (groups_are ∙ ap groups_of choices_are)

  found : needed ≤ most_rows → AreAll (group_record bits groups all) 0 group_count kept
  found few = rw kept_are (all_records bits groups all group_count (omega arith))

  pub enough_records : needed ≤ most_rows → length kept ≡ group_count
  enough_records few = (found few).one_each

  pub block_image : length all ≤ most_keys → needed ≤ most_rows → IsImageOf bits all (record { choices = choices; records = kept })
  block_image short few =
      let same : groups ≡ groups_of (block_choices all) = groups_are ∙ ap groups_of choices_are in
      let all_found = found few in
      record {
        few = short;
        few_rows = omega (arith, whole_needed);
        choices = choices_are;
        one_each = all_found.one_each;
        records = λ group low.
            let here : 0 + group ≡ group = omega arith in
            all_found.each group low ∙ ap (group_record bits groups all) here ∙ ap (λ (gs : List ℕ). group_record bits gs all group) same;
      }
