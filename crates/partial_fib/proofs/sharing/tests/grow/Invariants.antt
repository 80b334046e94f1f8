use Rattle.std.proofs.Common.{◌≡◌}
use Rattle.partial_fib.proofs.sharing.tests.grow.Given as goal

abbrev pub invariant-turns : goal.invariant-turns
invariant-turns g l = l.writer.opening ≡ l.fn.writer.opening
