use Rattle.partial_fib.proofs.Handled.{one_more_fits}
use Rattle.turn_log.proofs.opening.read_keys.Goals as goal

pub flows-preserved : goal.flows-preserved
flows-preserved c = one_more_fits c.args.flows.now c.flows.flow-index _ c.flows-test.true c.flows.invariant c.read_key.ensures
