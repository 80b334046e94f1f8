-- A FIB of each owner so far.
use Rattle.std.proofs.Common.{[], ℕ, map}
use Rattle.partial_fib.specs.Fib.{fib_after}
use Rattle.partial_fib.specs.Store.{state_of}
use Rattle.cluster_open.specs.Opened.{AreOpened}
use Rattle.cluster_open.proofs.node.fibs.Given as goal

abbrev pub invariant-owners : goal.invariant-owners
invariant-owners l = record {
  all : AreOpened l.owner (λ (owner : ℕ). fib_after l.shape l.number owner l.flows []) (map state_of l.fibs.items);
}
