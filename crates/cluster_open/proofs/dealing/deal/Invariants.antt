-- What the FIBs have so far, with what the flows left add, is what all flows add.
use Rattle.std.proofs.Common.{◌≡◌, ◌<◌, ◌++◌, [], length, drop, get_or, ℕ}
use Rattle.flow_types.specs.declared.record.Flow.{Flow}
use Rattle.flow_types.specs.Key.{IsKeyValue}
use Rattle.cluster_open.specs.Dealing.{own_flows}
use Rattle.cluster_open.proofs.dealing.deal.Given as goal

abbrev pub invariant-flows : goal.invariant-flows
invariant-flows l = record {
  one_each : length l.dealt.items ≡ l.shape.nodes;
  each : (owner : ℕ) → owner < l.shape.nodes → get_or l.dealt.items owner [] ++ own_flows l.shape l.node owner (drop l.flow-index l.flows) ≡ own_flows l.shape l.node owner l.flows;
  fit : (k : ℕ) (d : Flow) → k < l.flow-index → IsKeyValue (get_or l.flows k d).key;
}
