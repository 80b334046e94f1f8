use Rattle.std.proofs.Common.{◌≡◌}
use Rattle.bench.proofs.finding.applies.Given as goal

abbrev pub invariant-turns : goal.invariant-turns
invariant-turns g l = l.writer.opening ≡ l.fn.writer.opening
