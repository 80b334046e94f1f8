use Rattle.std.proofs.Common.{length}
use Rattle.cluster_storm.proofs.meeting.+meet_nodes.Given as goal

abbrev pub decreases-meet_nodes : goal.decreases-meet_nodes
decreases-meet_nodes g l = length l.appliers.now
