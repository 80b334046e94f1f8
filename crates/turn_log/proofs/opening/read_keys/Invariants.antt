use Rattle.std.proofs.Common.{ℕ, ◌<◌, get_or}
use Rattle.flow_types.specs.declared.record.Flow.{Flow}
use Rattle.flow_types.specs.Key.{IsKeyValue}
use Rattle.turn_log.proofs.opening.read_keys.Given as goal

abbrev pub invariant-flows : goal.invariant-flows
invariant-flows l = (k : ℕ) (d : Flow) → k < l.flow-index → IsKeyValue (get_or l.flows k d).key
