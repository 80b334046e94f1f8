use Rattle.group_search.proofs.LaneLemmas.{may_look_up, looked_up}
use Rattle.group_search.proofs.line.masks.Goals as goal

pub swizzle : goal.swizzle
swizzle c = may_look_up c.args.positions c.fits-positions.0 c.requires

pub returns : goal.returns
returns c = looked_up c.args.positions c.fits-positions.0 c.requires
