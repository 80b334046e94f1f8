-- The law.
use Rattle.storm_model.proofs.Alone.{owners_answer_alone}
use Rattle.storm_model.proofs.laws.owners_answer_alone.Goals as goal

pub returns : goal.returns
returns c = owners_answer_alone
