use Rattle.std.proofs.Common.{◌≤◌}
use Rattle.embed_cluster.specs.Parts.{AreSameReaders}
use Rattle.embed_cluster.proofs.lane.answer_many.Given as goal

abbrev pub invariant-packets : goal.invariant-packets
invariant-packets g l = AreSameReaders l.fn.lane l.lane × (l.answered ≤ l.packet)
