use Rattle.std.proofs.Common.{◌∙◌, ap}
use Rattle.cluster_replay.specs.Cluster.{RunState}
use Rattle.cluster_replay.proofs.Stays.{opening_stays}
use Rattle.cluster_replay.proofs.cluster.Cluster.handle.Goals as goal

pub returns-clause-opening : goal.returns-clause-opening
returns-clause-opening c =
    ap (λ (run : RunState). run.cluster.opened) c.self-2.view_is
    ∙ opening_stays c.answer-answered.result c.args.event.now c.args.self.now.cluster c.answer-answered.new.self.cluster c.answer-answered.ensures.goes_on c.answer-answered.ensures.stays
