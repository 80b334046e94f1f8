use Rattle.std.proofs.Common.{length}
use Rattle.turn_relay.proofs.finishing.+settle_nodes.Given as goal

abbrev pub decreases-settle_nodes : goal.decreases-settle_nodes
decreases-settle_nodes g l = length l.appliers.now
