use Rattle.cluster_storm.proofs.Storming.{one-on}
use Rattle.cluster_storm.proofs.phases.phase_length.Goals as goal

pub events-preserved : goal.events-preserved
events-preserved c =
    one-on c.args.script.now c.events.at _ c.events-test.true c.events.invariant c.requires
    (λ e. let is = c.is_sync.ensures.1 e in cc)
