use Rattle.std.proofs.Common.{◌≡◌, ◌≤◌}
use Rattle.cluster_replay.specs.Turn.{with_turns}
use Rattle.cluster_replay.proofs.cluster.Cluster.bring_up.Given as goal

abbrev pub invariant-turns : goal.invariant-turns
invariant-turns l = record {
  at : l.self ≡ with_turns l.part l.owner l.turn l.fn.self;
  within : l.turn ≤ l.sent;
}
