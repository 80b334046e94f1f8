use Rattle.std.proofs.Common.{◌≡◌}
use Rattle.partial_fib.proofs.sharing.dealing.seated.Given as goal

abbrev pub invariant-asks : goal.invariant-asks
invariant-asks g l = (goal.iterator-asks g).can_next l.iterator' × (goal.iterator-asks g).is_finite l.iterator' × (l.pen ≡ l.fn.pen)
