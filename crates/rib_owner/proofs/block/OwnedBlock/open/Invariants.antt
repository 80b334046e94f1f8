use Rattle.std.proofs.Common.{◌≡◌, ◌*◌, ◌<◌, ◌≤◌, ℕ, Some, length, get_or}
use Rattle.std.specs.List.{slice_get}
use Rattle.group_search.specs.declared.record.GroupRecord.{GroupRecord}
use Rattle.group_search.specs.Canon.{rows_in}
use Rattle.group_search.proofs.Sums.{sum_from}
use Rattle.rib_owner.proofs.block.OwnedBlock.open.Given as goal

abbrev pub invariant-groups : goal.invariant-groups
invariant-groups l = record {
  numbers : length l.rows ≡ 64;
  rows : (group : ℕ) (content : GroupRecord) → group < l.group → slice_get l.image.records group ≡ Some content → get_or l.rows group 0 ≡ rows_in content;
  used : l.used ≡ sum_from (λ (group : ℕ). get_or l.rows group 0) 0 l.group;
  few : l.used ≤ l.group * 255;
}
