use Rattle.std.proofs.Common.{◌+◌, ◌*◌, length}
use Rattle.cluster_storm.proofs.crew.+fn-start_lanes_alone-here+start_lanes_alone.Given as goal

abbrev pub decreases-here : goal.decreases-here
decreases-here g l = 2 * length l.rest.now + 1

abbrev pub decreases-start_lanes_alone : goal.decreases-start_lanes_alone
decreases-start_lanes_alone g l = 2 * length l.lanes.now
