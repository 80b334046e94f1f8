use Rattle.std.proofs.Common.{◌<◌, ◌≤◌, ℕ, length}
use Rattle.run_model.specs.Carrying.{turns_taken}
use Rattle.run_model.specs.State.{journal_of}
use Rattle.cluster_replay.proofs.cluster.Cluster.least_taken.Given as goal

abbrev pub invariant-nodes : goal.invariant-nodes
invariant-nodes l = record {
  taken : (node : ℕ) → node < l.node → l.least ≤ turns_taken l.part l.fn.self.cluster.nodes node l.owner;
  sent : l.least ≤ length (journal_of l.fn.self.cluster.journals l.owner);
  within : l.node ≤ l.fn.self.cluster.opened.size.nodes;
}
