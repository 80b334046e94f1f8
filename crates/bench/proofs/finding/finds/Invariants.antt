use Rattle.std.proofs.Common.{◌≡◌}
use Rattle.bench.proofs.finding.finds.Given as goal

abbrev pub invariant-finds : goal.invariant-finds
invariant-finds g l = l.reader.opening ≡ l.fn.reader.opening
