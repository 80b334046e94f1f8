use Rattle.std.proofs.Common.{◌+◌, ◌*◌, length}
use Rattle.cluster_storm.proofs.crew.+fn-start_lanes-here+start_lanes.Given as goal

abbrev pub decreases-here : goal.decreases-here
decreases-here g l = 2 * length l.rest.now + 1

abbrev pub decreases-start_lanes : goal.decreases-start_lanes
decreases-start_lanes g l = 2 * length l.lanes.now
