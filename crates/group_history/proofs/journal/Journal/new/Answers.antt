use Rattle.std.proofs.Common.{arith}
use Rattle.group_history.proofs.Counts.{no_counts}
use Rattle.group_history.proofs.journal.Journal.new.Goals as goal

pub invariant_of-result : goal.invariant_of-result
invariant_of-result c = record {
  counts = no_counts c.new-2.result c.new.result.items c.new-2.ensures.empty c.new.ensures.items;
  room_for_counts = omega arith;
  room_for_changes = omega arith;
  few = omega arith;
}
