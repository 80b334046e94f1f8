use Rattle.std.proofs.Common.{arith}
use Rattle.group_cell.proofs.Placing.{some_place}
use Rattle.group_cell.proofs.table.placing.free_place.Goals as goal

pub unreachable-requires : goal.unreachable-requires
unreachable-requires c = some_place 0 c.args.owners.now c.requires (λ i inside. c.places.invariant i (omega arith))
