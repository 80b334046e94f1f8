use Rattle.std.proofs.Common.{◌≡◌}
use Rattle.partial_fib.proofs.sharing.tests.count_wrong.Given as goal

abbrev pub invariant-turns : goal.invariant-turns
invariant-turns g l = l.reader.opening ≡ l.fn.reader.opening
