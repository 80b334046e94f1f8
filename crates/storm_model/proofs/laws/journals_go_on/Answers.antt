-- The law.
use Rattle.storm_model.proofs.Journals.{journals_go_on}
use Rattle.storm_model.proofs.laws.journals_go_on.Goals as goal

pub returns : goal.returns
returns c = journals_go_on
