use Rattle.std.specs.Prelude.{All}
use Rattle.flow_types.specs.declared.record.Flow.{Flow}
use Rattle.group_search.specs.Owned.{IsOwned}
use Rattle.bench.proofs.building.owned.Given as goal

abbrev pub invariant-flows : goal.invariant-flows
invariant-flows l = All (λ (flow : Flow). IsOwned l.shape 0 flow.key) l.owned.items
