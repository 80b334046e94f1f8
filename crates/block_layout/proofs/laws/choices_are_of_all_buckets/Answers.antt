use Rattle.block_layout.proofs.DealingLemmas.{are_choices}
use Rattle.block_layout.proofs.laws.choices_are_of_all_buckets.Goals as goal

pub returns : goal.returns
returns c = are_choices c.args.sizes.now
