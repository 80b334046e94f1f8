use Rattle.std.proofs.Common.{ℕ, ◌≡◌, ◌<◌, get_or}
use Rattle.block_layout.specs.Dealing.{rank}
use Rattle.block_layout.proofs.ranking.ranks_of.Given as goal

abbrev pub invariant-buckets : goal.invariant-buckets
invariant-buckets l = (k : ℕ) → k < l.bucket → get_or l.rank-items k 0 ≡ rank l.sizes k
