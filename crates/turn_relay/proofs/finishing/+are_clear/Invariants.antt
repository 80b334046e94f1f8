use Rattle.std.proofs.Common.{length}
use Rattle.turn_relay.proofs.finishing.+are_clear.Given as goal

abbrev pub decreases-are_clear : goal.decreases-are_clear
decreases-are_clear l = length l.appliers.now
