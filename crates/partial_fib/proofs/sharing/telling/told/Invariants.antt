use Rattle.partial_fib.specs.Ends.{IsLater}
use Rattle.partial_fib.proofs.sharing.telling.told.Given as goal

abbrev pub invariant-looks : goal.invariant-looks
invariant-looks g l =
    (goal.iterator-looks g).can_next l.iterator' × (goal.iterator-looks g).is_finite l.iterator' × IsLater l.fn.reader l.reader
