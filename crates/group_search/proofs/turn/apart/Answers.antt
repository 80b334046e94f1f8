use Rattle.group_search.proofs.LaneLemmas.{free_mask}
use Rattle.group_search.proofs.turn.apart.Goals as goal

pub returns : goal.returns
returns c = free_mask c.args.arrays c.args.places c.fits-arrays.0 c.fits-places.0
