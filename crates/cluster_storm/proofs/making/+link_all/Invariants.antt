use Rattle.std.proofs.Common.{length}
use Rattle.cluster_storm.proofs.making.+link_all.Given as goal

abbrev pub decreases-link_all : goal.decreases-link_all
decreases-link_all l = length l.owners.now
