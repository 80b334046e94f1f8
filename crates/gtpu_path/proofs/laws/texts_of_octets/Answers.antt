use Rattle.gtpu_path.proofs.Digits.{texts_exactly}
use Rattle.gtpu_path.proofs.laws.texts_of_octets.Goals as goal

pub returns : goal.returns
returns c = texts_exactly
