use Rattle.std.proofs.Common.{◌≡◌, ◌<◌, get_or, ℕ}
use Rattle.group_search.specs.Home.{group_of}
use Rattle.setsep_build.proofs.groups.groups_of.Given as goal

abbrev pub invariant-buckets : goal.invariant-buckets
invariant-buckets l = record {
  each : (k : ℕ) → k < l.bucket → get_or l.group-items k 0 ≡ group_of l.choices k;
  known : (k : ℕ) → k < l.bucket → get_or l.group-items k 0 < 64;
}
