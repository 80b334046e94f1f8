use Rattle.std.proofs.lemmas.List.Sorted.{IsNonDecreasingBy-from_sort}
use Rattle.block_layout.specs.Dealing.{rank, buckets, order_of}
use Rattle.block_layout.proofs.Sorting.{sorted_is}
use Rattle.block_layout.proofs.ranking.ranks_in_order.Goals as goal

pub returns : goal.returns
unfolding order_of
returns c =
    sorted_is (rank c.args.sizes.now) buckets c.sort_unstable.new.self
    (rw c.ranks_of-ranks.ensures at c.sort_unstable.ensures.permutation)
    (IsNonDecreasingBy-from_sort (λ x. x) c.sort_unstable.new.self c.sort_unstable.ensures.sorted)
