use Rattle.std.proofs.Common.{◌≡◌, ◌∙◌, ◌++◌, List, length, ap, sym, arith, subst}
use Rattle.std.specs.Prelude.{option_to_list}
use Rattle.flow_types.specs.Map.{HaveDistinctKeys}
use Rattle.group_search.specs.Rows.{entry_key}
use Rattle.group_search.specs.declared.entry.Entry.{Entry}
use Rattle.group_search.specs.declared.record.GroupRecord.{GroupRecord}
use Rattle.group_search.specs.Canon.{canonical}
use Rattle.group_search.specs.Build.{rows_needed}
use Rattle.group_search.proofs.NeededRows.{few_needed}
use Rattle.setsep_build.specs.Placing.{gathered}
use Rattle.setsep_build.specs.Block.{records_below}
use Rattle.setsep_build.proofs.MoreRecords.{no_records, none_needed, one_record_more, more_needed, gathered_few, gathered_distinct}
use Rattle.setsep_build.proofs.records.records_of.Goals as goal

pub groups-init : goal.groups-init
groups-init c = record {
  kept = c.in_ok-with_capacity.ensures.items ∙ sym (no_records c.args.bits c.args.groups.now c.args.placed.now);
  needed = sym (none_needed c.args.bits c.args.groups.now c.args.placed.now);
  small = omega arith;
}

pub add-requires-clause-distinct : goal.add-requires-clause-distinct
add-requires-clause-distinct c =
    let is : c.entries.result.now ≡ gathered c.args.groups.now c.groups.group c.args.placed.now = c.entries.ensures ∙ c.in_ok-gather.ensures c.groups.group (omega arith) in
    subst (HaveDistinctKeys entry_key) (sym is) (gathered_distinct c.args.groups.now c.groups.group c.args.placed.now c.requires.apart)

pub add-requires-clause-few : goal.add-requires-clause-few
add-requires-clause-few c =
    let is : c.entries.result.now ≡ gathered c.args.groups.now c.groups.group c.args.placed.now = c.entries.ensures ∙ c.in_ok-gather.ensures c.groups.group (omega arith) in
    omega (arith, ap length is, gathered_few c.args.groups.now c.groups.group c.args.placed.now)

pub groups-preserved : goal.groups-preserved
groups-preserved c =
    let is : c.entries.result.now ≡ gathered c.args.groups.now c.groups.group c.args.placed.now = c.entries.ensures ∙ c.in_ok-gather.ensures c.groups.group (omega arith) in
    let needed = c.in_ok-add.ensures.needed in
    record {
      kept = c.in_ok-add.ensures.kept
          ∙ ap (λ (l : List GroupRecord). l ++ option_to_list (canonical c.args.bits c.entries.result.now)) c.groups.invariant.kept
          ∙ ap (λ (es : List Entry). records_below c.groups.group c.args.bits c.args.groups.now c.args.placed.now ++ option_to_list (canonical c.args.bits es)) is
          ∙ sym (one_record_more c.args.bits c.args.groups.now c.args.placed.now c.groups.group);
      needed = omega (arith, needed, ap (rows_needed c.args.bits) is, c.groups.invariant.needed, more_needed c.args.bits c.args.groups.now c.args.placed.now c.groups.group);
      small = omega (arith, needed, few_needed c.entries.result.now c.args.bits, ap length is, gathered_few c.args.groups.now c.groups.group c.args.placed.now, c.groups.invariant.small);
    }
