use Rattle.group_search.proofs.LaneLemmas.{hashes_here}
use Rattle.group_search.proofs.line.Line.hashes.Goals as goal

pub returns : goal.returns
returns c = hashes_here c.args.self.now c.self.inside.pair c.args.first c.self.inside.steps c.self.view_is c.self.invariant
