-- The law.
use Rattle.storm_model.proofs.Alone.{idle_owners_say_nothing}
use Rattle.storm_model.proofs.laws.idle_owners_say_nothing.Goals as goal

pub returns : goal.returns
returns c = idle_owners_say_nothing
