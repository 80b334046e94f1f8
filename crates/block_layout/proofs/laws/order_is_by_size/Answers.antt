use Rattle.block_layout.proofs.DealingLemmas.{is_order}
use Rattle.block_layout.proofs.laws.order_is_by_size.Goals as goal

pub returns : goal.returns
returns c = is_order c.args.sizes.now c.told-sizes c.requires
