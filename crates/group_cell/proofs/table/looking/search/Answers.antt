use Rattle.std.proofs.Common.{subst}
use Rattle.flow_types.specs.declared.key.FlowKey.{FlowKey}
use Rattle.group_cell.specs.Layout.{home_of}
use Rattle.group_cell.specs.Seating.{IsFound, loads_of}
use Rattle.group_cell.proofs.table.looking.search.Goals as goal

pub returns-clause-found : goal.returns-clause-found
returns-clause-found c = λ many.
    subst (λ (k : FlowKey). IsFound (loads_of c.search_places.new.seat) (home_of c.args.at) 64 k c.search_places.result) c.key.ensures c.search_places.ensures.found
