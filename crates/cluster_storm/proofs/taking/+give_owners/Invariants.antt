use Rattle.std.proofs.Common.{length}
use Rattle.cluster_storm.proofs.taking.+give_owners.Given as goal

abbrev pub decreases-give_owners : goal.decreases-give_owners
decreases-give_owners l = length l.owners.now
