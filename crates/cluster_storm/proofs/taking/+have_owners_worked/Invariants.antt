use Rattle.std.proofs.Common.{length}
use Rattle.cluster_storm.proofs.taking.+have_owners_worked.Given as goal

abbrev pub decreases-have_owners_worked : goal.decreases-have_owners_worked
decreases-have_owners_worked l = length l.owners.now
