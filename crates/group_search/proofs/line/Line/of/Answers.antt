use Rattle.std.proofs.Common.{refl}
use Rattle.group_search.specs.Lanes.{lanes}
use Rattle.group_search.proofs.line.Line.of.Goals as goal

pub invariant_of-result : goal.invariant_of-result
unfolding lanes
invariant_of-result c = refl
