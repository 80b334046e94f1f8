-- The law.
use Rattle.run_model.proofs.Paths.{each_version_is_a_path}
use Rattle.run_model.proofs.laws.each_version_is_a_path.Goals as goal

pub returns : goal.returns
returns c = each_version_is_a_path
