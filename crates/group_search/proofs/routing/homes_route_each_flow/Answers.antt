use Rattle.group_search.proofs.EachFlow.{routes_each_flow}
use Rattle.group_search.proofs.routing.homes_route_each_flow.Goals as goal

pub returns : goal.returns
returns c = routes_each_flow
