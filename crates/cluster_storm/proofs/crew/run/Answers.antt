use Rattle.cluster_storm.proofs.Crews.{appliers_rest, owners_rest}
use Rattle.cluster_storm.proofs.crew.run.Goals as goal

pub returns-then-phase-eq0-clause-owners : goal.returns-then-phase-eq0-clause-owners
returns-then-phase-eq0-clause-owners g c =
    owners_rest c.args.phase.now.flows.now c.args.phase.now.events.now c.args.phase.now.working.now c.args.owners.now (c.requires.counted c.if-phase-eq0.true)

pub returns-then-phase-eq0-clause-appliers : goal.returns-then-phase-eq0-clause-appliers
returns-then-phase-eq0-clause-appliers g c = appliers_rest c.args.phase.now.working.now c.args.appliers.now
