use Rattle.std.proofs.Common.{◌≡◌, ◌≤◌, ◌*◌}
use Rattle.block_layout.specs.Limits.{most_keys}
use Rattle.setsep_build.specs.Block.{records_below, needed_below}
use Rattle.setsep_build.proofs.records.records_of.Given as goal

abbrev pub invariant-groups : goal.invariant-groups
invariant-groups l = record {
  kept : l.records.kept.items ≡ records_below l.group l.bits l.groups l.placed;
  needed : l.records.needed ≡ needed_below l.group l.bits l.groups l.placed;
  small : l.records.needed ≤ l.group * most_keys;
}
