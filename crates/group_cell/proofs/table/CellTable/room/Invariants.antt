use Rattle.std.proofs.Common.{◌≡◌, ◌+◌, take}
use Rattle.group_cell.specs.Seating.{places_of}
use Rattle.group_cell.proofs.table.CellTable.room.Given as goal

abbrev pub invariant-places : goal.invariant-places
invariant-places l = l.places ≡ places_of 0 (take l.owner-index l.owners) + places_of (l.fn.group + 1) (take l.owner-index l.owners)
