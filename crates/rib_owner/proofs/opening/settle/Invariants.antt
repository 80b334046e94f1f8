use Rattle.std.proofs.Common.{◌≡◌, map}
use Rattle.rib_owner.specs.Stock.{part_in}
use Rattle.rib_owner.proofs.opening.settle.Given as goal

abbrev pub invariant-settled : goal.invariant-settled
invariant-settled l = map part_in l.blocks ≡ map part_in l.fn.blocks
