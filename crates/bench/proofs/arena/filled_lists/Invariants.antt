use Rattle.std.proofs.Common.{◌≡◌, length}
use Rattle.bench.proofs.arena.filled_lists.Given as goal

abbrev pub invariant-lists : goal.invariant-lists
invariant-lists l = length l.lists.items ≡ l.counter

abbrev pub invariant-pushed : goal.invariant-pushed
invariant-pushed l = length l.lists.items ≡ 256
