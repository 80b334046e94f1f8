use Rattle.gtpu_path.proofs.Gpdus.{read_again}
use Rattle.gtpu_path.proofs.laws.what_is_read_is_a_gpdu.Goals as goal

pub returns : goal.returns
returns c = read_again
