use Rattle.std.proofs.Common.{◌*◌, ◌^◌, ◌<◌}
use Rattle.std.specs.Prelude.{All}
use Rattle.flow_types.specs.declared.record.Flow.{Flow}
use Rattle.flow_types.specs.Key.{number}
use Rattle.flow_types.specs.Map.{AreDistinct}
use Rattle.group_search.specs.Records.{AreHandled}
use Rattle.bench.proofs.building.flows.Given as goal

abbrev pub invariant-flows : goal.invariant-flows
invariant-flows l = record {
  distinct : AreDistinct l.made.items;
  handled : AreHandled l.fn.shape.nodes l.made.items;
  below : All (λ (flow : Flow). number flow.key < l.source * 2 ^ 72) l.made.items;
}
