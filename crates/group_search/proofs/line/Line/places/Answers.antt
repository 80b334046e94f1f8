use Rattle.group_search.proofs.LaneLemmas.{small_positions, masks_at}
use Rattle.group_search.proofs.line.Line.places.Goals as goal

pub masks-requires : goal.masks-requires
masks-requires c = small_positions c.args.self.now c.args.first c.hashes.result c.positions.result c.hashes.ensures c.positions.ensures

pub returns : goal.returns
returns c = masks_at c.args.self.now c.args.first c.hashes.result c.positions.result c.masks.result c.hashes.ensures c.positions.ensures c.masks.ensures
