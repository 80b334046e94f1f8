use Rattle.std.proofs.Common.{◌≡◌, ◌≢◌, ℕ, ◌+◌, ◌<◌, List, slice_index}
use Rattle.group_search.specs.Home.{Home}
use Rattle.group_cell.specs.Layout.{home_of}
use Rattle.group_cell.specs.Seating.{CellSeat, AreOwners, IsInWriting, Rewrites, places_of, words_of_seat}
use Rattle.group_cell.proofs.table.placing.vacate.Given as goal

-- the places so far aren't the group's
pub record Vacated (before now : CellSeat) (at : Home) (place : ℕ) (owners_before owners_now : List ℕ) : Type 0 where
  pub owners : AreOwners owners_now (words_of_seat now) at.block
  pub rewrites : Rewrites at.block before now
  pub writing : IsInWriting now at
  pub gone : (k : ℕ) → k < place → slice_index owners_now k ≢ at.group + 1
  pub counts : places_of 0 owners_now + places_of (at.group + 1) owners_now ≡ places_of 0 owners_before + places_of (at.group + 1) owners_before
  pub others : (o : ℕ) → o ≢ 0 → o ≢ at.group + 1 → places_of o owners_now ≡ places_of o owners_before

abbrev pub invariant-places : goal.invariant-places
invariant-places l = Vacated l.initial.seat l.seat (home_of l.fn.at) l.place l.initial.owners l.owners
