use Rattle.std.proofs.Common.{◌≡◌}
use Rattle.partial_fib.proofs.sharing.reader.inside.Given as goal

abbrev pub invariant-tries : goal.invariant-tries
invariant-tries g l =
    (goal.iterator-tries g).can_next l.iterator' × (goal.iterator-tries g).is_finite l.iterator'
    × (l.outside.place.me.0.client ≡ l.fn.seat.place.me.0.client)
