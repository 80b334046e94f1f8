-- The law.
use Rattle.storm_model.proofs.Gathered.{phases_are_said}
use Rattle.storm_model.proofs.laws.phases_are_said.Goals as goal

pub returns : goal.returns
returns c = phases_are_said
