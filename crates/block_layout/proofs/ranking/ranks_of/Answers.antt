use Rattle.std.proofs.Common.{arith, ap, ◌∙◌, ◌+◌, ◌*◌, ◌≡◌, get_or, set}
use Rattle.std.proofs.lemmas.List.Edits.{fill_by_more}
use Rattle.std.proofs.lemmas.List.FromFn.{fill_by_all}
use Rattle.block_layout.specs.Dealing.{rank, buckets}
use Rattle.block_layout.proofs.ranking.ranks_of.Goals as goal

pub buckets-preserved : goal.buckets-preserved
unfolding rank
buckets-preserved c =
    let written : c.from.result * 256 + c.buckets.bucket ≡ rank c.args.sizes.now c.buckets.bucket =
    ap (λ n. n * 256 + c.buckets.bucket) c.from.ensures in
    λ k h.
    ap (λ v. get_or (set c.buckets.rank-items c.buckets.bucket v) k 0) written
    ∙ fill_by_more (rank c.args.sizes.now) c.buckets.rank-items c.buckets.bucket 0 (omega arith) c.buckets.invariant k h

pub returns : goal.returns
unfolding buckets
returns c = fill_by_all (rank c.args.sizes.now) c.buckets.rank-items 256 0 (omega arith) (λ k h. c.buckets.invariant k (omega arith))
