use Rattle.std.proofs.Common.{◌+◌, ◌*◌}
use Rattle.cluster_storm.proofs.crew.+fn-start_appliers-here+start_appliers.Given as goal

abbrev pub decreases-here : goal.decreases-here
decreases-here g l = 2 * l.others + 1

abbrev pub decreases-start_appliers : goal.decreases-start_appliers
decreases-start_appliers g l = 2 * l.threads
