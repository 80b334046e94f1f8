use Rattle.std.proofs.Common.{take}
use Rattle.group_cell.specs.Laying.{AreLaid}
use Rattle.group_cell.proofs.table.laying.lay.Given as goal

abbrev pub invariant-laid : goal.invariant-laid
invariant-laid l = AreLaid l.words.items l.owners.items (take l.image-index l.images)
