use Rattle.std.proofs.Common.{◌+◌, ◌*◌, length}
use Rattle.cluster_storm.proofs.crew.+fn-start_owners-here+start_owners.Given as goal

abbrev pub decreases-here : goal.decreases-here
decreases-here g l = 2 * length l.rest.now + 1

abbrev pub decreases-start_owners : goal.decreases-start_owners
decreases-start_owners g l = 2 * length l.owners.now
