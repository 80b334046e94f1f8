use Rattle.group_cell.specs.Layout.{home_of}
use Rattle.group_cell.specs.Seating.{IsLooking, GoesOn, IsFound, loads_of}
use Rattle.group_cell.proofs.table.looking.search_places.Given as goal

abbrev pub invariant-places : goal.invariant-places
invariant-places l = IsLooking l.seat × GoesOn l.initial.seat l.seat × IsFound (loads_of l.seat) (home_of l.fn.at) l.place l.fn.key l.found
