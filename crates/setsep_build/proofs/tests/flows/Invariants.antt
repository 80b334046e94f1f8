use Rattle.std.proofs.Common.{◌*◌, ◌^◌, ◌<◌}
use Rattle.std.specs.Prelude.{All}
use Rattle.flow_types.specs.declared.record.Flow.{Flow}
use Rattle.flow_types.specs.Key.{number}
use Rattle.flow_types.specs.Map.{AreDistinct}
use Rattle.group_search.specs.Records.{AreHandled}
use Rattle.setsep_build.proofs.tests.flows.Given as goal

abbrev pub invariant-ports : goal.invariant-ports
invariant-ports l = record {
  distinct : AreDistinct l.made.items;
  handled : AreHandled l.fn.shape.nodes l.made.items;
  below : All (λ (flow : Flow). number flow.key < l.port * 2 ^ 24) l.made.items;
}
