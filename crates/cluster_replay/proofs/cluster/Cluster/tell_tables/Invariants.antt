use Rattle.std.proofs.Common.{◌≤◌}
use Rattle.packet_reader.specs.declared.event.Part.TheVariants.{Table}
use Rattle.cluster_replay.specs.Turn.{with_turn}
use Rattle.cluster_replay.proofs.BroughtUp.{AreRaised}
use Rattle.cluster_replay.proofs.cluster.Cluster.tell_tables.Given as goal

abbrev pub invariant-nodes : goal.invariant-nodes
invariant-nodes l = record {
  told : AreRaised l.fn.self (with_turn Table l.owner l.turn) l.node l.self;
  within : l.node ≤ l.fn.self.cluster.opened.size.nodes;
}
