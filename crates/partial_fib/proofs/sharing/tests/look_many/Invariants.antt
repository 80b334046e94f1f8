use Rattle.partial_fib.specs.Ends.{IsLater}
use Rattle.partial_fib.proofs.sharing.tests.look_many.Given as goal

abbrev pub invariant-looks : goal.invariant-looks
invariant-looks g l = IsLater l.fn.reader l.reader
