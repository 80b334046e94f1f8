use Rattle.std.proofs.Common.{map, take}
use Rattle.rib_owner.specs.Opening.{AreFilled}
use Rattle.rib_owner.specs.Stock.{part_in}
use Rattle.rib_owner.proofs.opening.filled_blocks.Given as goal

abbrev pub invariant-flows : goal.invariant-flows
invariant-flows l = AreFilled l.shape l.number l.flows (take l.flow-index l.flows) (map part_in l.blocks.items)
