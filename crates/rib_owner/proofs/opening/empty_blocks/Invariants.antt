use Rattle.std.proofs.Common.{◌-◌, map}
use Rattle.rib_owner.specs.Stock.{part_in}
use Rattle.rib_owner.proofs.Filled.{AreOpened}
use Rattle.rib_owner.proofs.opening.empty_blocks.Given as goal

abbrev pub invariant-dealt : goal.invariant-dealt
invariant-dealt l = AreOpened l.fn.shape l.number l.flows l.block (map part_in l.blocks.items)

abbrev pub decreases-dealt : goal.decreases-dealt
decreases-dealt l = l.fn.shape.blocks - l.block
