use Rattle.std.proofs.Common.{length}
use Rattle.cluster_storm.proofs.meeting.+meet.Given as goal

abbrev pub decreases-meet : goal.decreases-meet
decreases-meet g l = length l.lanes.now
