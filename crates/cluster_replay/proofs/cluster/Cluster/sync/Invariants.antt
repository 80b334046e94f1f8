use Rattle.std.proofs.Common.{◌≤◌}
use Rattle.flow_types.specs.Size.{owners_in}
use Rattle.cluster_replay.proofs.BroughtUp.{AreBroughtUp}
use Rattle.cluster_replay.proofs.cluster.Cluster.sync.Given as goal

abbrev pub invariant-owners : goal.invariant-owners
invariant-owners l = record {
  told : AreBroughtUp l.fn.self l.owner l.self;
  within : l.owner ≤ owners_in l.fn.self.cluster.opened.size;
}
