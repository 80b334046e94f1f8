use Rattle.std.proofs.Common.{◌≡◌, ◌++◌, drop}
use Rattle.std.specs.Prelude.{All}
use Rattle.flow_types.specs.Key.{IsKeyValue}
use Rattle.flow_types.specs.declared.record.Flow.{Flow}
use Rattle.flow_reader.specs.FlowMap.{IsFlowMap}
use Rattle.flow_reader.proofs.flow_map.known_of.Given as goal

abbrev pub invariant-flows : goal.invariant-flows
invariant-flows l = record {
  sound : IsFlowMap l.shape l.known;
  values : All (λ (flow : Flow). IsKeyValue flow.key) l.known;
  so_far : l.known ++ drop l.flow-index l.flows ≡ l.flows;
}
