use Rattle.std.proofs.Common.{length}
use Rattle.cluster_storm.proofs.taking.+have_lanes_worked.Given as goal

abbrev pub decreases-have_lanes_worked : goal.decreases-have_lanes_worked
decreases-have_lanes_worked l = length l.lanes.now
