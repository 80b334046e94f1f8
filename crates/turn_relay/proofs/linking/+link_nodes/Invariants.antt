use Rattle.std.proofs.Common.{length}
use Rattle.turn_relay.proofs.linking.+link_nodes.Given as goal

abbrev pub decreases-link_nodes : goal.decreases-link_nodes
decreases-link_nodes l = length l.appliers.now
