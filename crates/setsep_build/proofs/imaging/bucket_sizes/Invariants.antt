use Rattle.std.proofs.Common.{◌≡◌, ◌<◌, length, take, get_or, ℕ, sum}
use Rattle.std.specs.Prelude.{count_by}
use Rattle.block_layout.specs.Limits.{bucket_count}
use Rattle.setsep_build.specs.Placing.{is_bucket}
use Rattle.setsep_build.proofs.imaging.bucket_sizes.Given as goal

abbrev pub invariant-placed : goal.invariant-placed
invariant-placed l = record {
  all : length l.sizes ≡ bucket_count;
  counts : (bucket : ℕ) → bucket < bucket_count → get_or l.sizes bucket 0 ≡ count_by (is_bucket bucket) (take l.one-index l.placed);
  total : sum l.sizes ≡ l.one-index;
}
