use Rattle.std.proofs.Common.{◌≡◌, take}
use Rattle.group_cell.proofs.table.opening.copies.Given as goal

abbrev pub invariant-images : goal.invariant-images
invariant-images l = l.all.items ≡ take l.image-index l.images
