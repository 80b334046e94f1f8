use Rattle.std.proofs.Common.{length}
use Rattle.cluster_storm.proofs.seating.+give_lanes.Given as goal

abbrev pub decreases-give_lanes : goal.decreases-give_lanes
decreases-give_lanes l = length l.lanes.now
