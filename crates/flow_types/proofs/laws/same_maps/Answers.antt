use Rattle.flow_types.proofs.KeyedFlows.{permuted_same, same_permuted}
use Rattle.flow_types.proofs.laws.same_maps.Goals as goal

pub returns : goal.returns
returns c flows others distinct apart = (same_permuted flows others distinct apart, permuted_same flows others distinct apart)
