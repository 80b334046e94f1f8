use Rattle.std.proofs.Common.{◌≡◌}
use Rattle.partial_fib.proofs.sharing.tests.apply_all.Given as goal

abbrev pub invariant-turns : goal.invariant-turns
invariant-turns g l = (l.writer.book ≡ l.fn.writer.book) × (l.writer.opening ≡ l.fn.writer.opening)
