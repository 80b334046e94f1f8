use Rattle.std.proofs.Common.{ℕ, ◌≡◌, ◌<◌, ◌≤◌, get_or, length}
use Rattle.bench.proofs.choosing.sizes.Given as goal

abbrev pub invariant-buckets : goal.invariant-buckets
invariant-buckets l = record { all : length l.sizes ≡ 256; few : (k : ℕ) → k < 256 → get_or l.sizes k 0 ≤ 6 }
