use Rattle.std.proofs.Common.{ℕ, ◌<◌, get_or}
use Rattle.flow_types.specs.declared.record.Flow.{Flow}
use Rattle.flow_types.specs.Key.{IsKeyValue}
use Rattle.partial_fib.specs.Fib.{is_handled_of}
use Rattle.partial_fib.specs.Store.{record_among}
use Rattle.partial_fib.proofs.Handled.{IsFilled}
use Rattle.partial_fib.proofs.fib.handled.Given as goal

abbrev pub invariant-flows : goal.invariant-flows
invariant-flows l =
    ((n : ℕ) → IsFilled (is_handled_of l.shape l.node l.owner) l.flows l.flow-index n (record_among l.records n))
    × ((k : ℕ) (d : Flow) → k < l.flow-index → IsKeyValue (get_or l.flows k d).key)
