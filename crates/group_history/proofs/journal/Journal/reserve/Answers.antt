use Rattle.std.proofs.Common.{arith}
use Rattle.group_history.proofs.Counts.{same_counts}
use Rattle.group_history.proofs.journal.Journal.reserve.Goals as goal

pub invariant_of-self-then-self-eq0 : goal.invariant_of-self-then-self-eq0
invariant_of-self-then-self-eq0 c = record {
  counts = same_counts c.self.inside.counts c.reserve-then-self-eq0.new.self c.self.inside.changes.items c.reserve.new.self.items
      c.reserve-then-self-eq0.ensures.entries c.reserve.ensures.items c.self.invariant.counts;
  room_for_counts = c.in_ok-reserve-2.ensures.ok;
  room_for_changes = omega (arith, c.in_ok-reserve.ensures.ok, c.reserve.new.self.ok.0);
  few = rw c.reserve.ensures.items c.self.invariant.few;
}
