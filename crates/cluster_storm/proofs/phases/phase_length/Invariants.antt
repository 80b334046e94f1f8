-- No sync is among the events so far.
use Rattle.std.proofs.Common.{take}
use Rattle.storm_model.specs.Phase.{IsOnePhase}
use Rattle.cluster_storm.proofs.phases.phase_length.Given as goal

abbrev pub invariant-events : goal.invariant-events
invariant-events l = IsOnePhase (take l.at l.script)
