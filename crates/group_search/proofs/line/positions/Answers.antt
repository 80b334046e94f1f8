use Rattle.group_search.proofs.LaneLemmas.{tops}
use Rattle.group_search.proofs.line.positions.Goals as goal

pub returns : goal.returns
returns c = tops c.args.hashes c.fits-hashes.0 c.fits-hashes.1
