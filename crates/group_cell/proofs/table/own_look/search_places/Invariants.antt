use Rattle.std.proofs.Common.{◌≡◌}
use Rattle.group_cell.specs.Layout.{home_of}
use Rattle.group_cell.specs.Seating.{IsSameSeat, StandsFound, words_of_seat}
use Rattle.group_cell.proofs.table.own_look.search_places.Given as goal

abbrev pub invariant-places : goal.invariant-places
invariant-places l = IsSameSeat l.initial.seat l.seat × (l.seat.me ≡ l.initial.seat.me) × StandsFound (words_of_seat l.initial.seat) (home_of l.fn.at) l.place l.fn.key l.found
