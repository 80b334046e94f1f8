use Rattle.std.proofs.Common.{◌≡◌}
use Rattle.bucket_arena.specs.Arena.{item_count}
use Rattle.bench.proofs.arena.filled.Given as goal

abbrev pub invariant-pushed : goal.invariant-pushed
invariant-pushed l = item_count l.arena ≡ l.number
