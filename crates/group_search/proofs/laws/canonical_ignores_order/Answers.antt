use Rattle.group_search.proofs.AnyOrder.{ignores_order}
use Rattle.group_search.proofs.laws.canonical_ignores_order.Goals as goal

pub returns : goal.returns
returns c = ignores_order
