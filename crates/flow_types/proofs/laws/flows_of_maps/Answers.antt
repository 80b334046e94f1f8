use Rattle.flow_types.proofs.KeyedFlows.{found_of_stands, found_stands}
use Rattle.flow_types.proofs.laws.flows_of_maps.Goals as goal

pub returns : goal.returns
returns c key flow flows distinct =
    (found_stands key flow flows, λ stands. found_of_stands key flow flows distinct stands.0 stands.1)
