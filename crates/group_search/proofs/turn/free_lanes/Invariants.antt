use Rattle.std.proofs.Common.{drop}
use Rattle.group_search.proofs.LaneMasks.{AreSoFar}
use Rattle.group_search.proofs.turn.free_lanes.Given as goal

abbrev pub invariant-zeros : goal.invariant-zeros
invariant-zeros l = AreSoFar l.places l.first (drop l.before l.zeros) l.zeros
