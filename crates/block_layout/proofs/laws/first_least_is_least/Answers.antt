use Rattle.block_layout.proofs.DealingLemmas.{is_first_least}
use Rattle.block_layout.proofs.laws.first_least_is_least.Goals as goal

pub returns : goal.returns
returns c = is_first_least
