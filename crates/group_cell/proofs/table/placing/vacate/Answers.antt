use Rattle.std.proofs.Common.{arith, ◌≡◌, ◌≢◌, ℕ, ◌+◌, ◌<◌, List, get_or, set, below_more, get_or-set_other, get_or-set_same, refl, sym, ap, ◌∙◌, subst}
use mathlib.Core.Logic.{dite}
use native.Mathlib.Decide.{ℕ_discrete}
use Rattle.group_search.specs.Home.{Home}
use Rattle.group_cell.specs.Layout.{home_of}
use Rattle.group_cell.specs.Seating.{CellSeat, AreOwners, Rewrites, places_of, words_of_seat}
use Rattle.group_cell.proofs.Placing.{none_left, no_rows, places_kept, places_lost, places_gained}
use Rattle.group_cell.proofs.Rewriting.{rewrites-self, rewrites-trans, writing_on}
use Rattle.group_cell.proofs.table.placing.vacate.Invariants.{Vacated}
use Rattle.group_cell.proofs.table.placing.vacate.Goals as goal
use Rattle.group_cell.proofs.table.placing.vacate.Goals.{then-owners-place, else-owners-place}

pub places-init : goal.places-init
places-init c = record {
  owners = c.requires.owners;
  rewrites = rewrites-self c.args.at.block c.args.seat.now c.requires.writing.writes;
  writing = c.requires.writing;
  gone = λ k less. absurd (omega arith);
  counts = omega arith;
  others = λ o _ _. refl;
}

-- a place that isn't the group's stays
skipped : (before now : CellSeat) (at : Home) (place : ℕ) (owners_before owners_now : List ℕ) → Vacated before now at place owners_before owners_now → get_or owners_now place 0 ≢ at.group + 1 → Vacated before now at (place + 1) owners_before owners_now
skipped before now at place owners_before owners_now v other = record {
  owners = v.owners;
  rewrites = v.rewrites;
  writing = v.writing;
  gone = below_more _ _ v.gone other;
  counts = v.counts;
  others = v.others;
}

-- a place of the group is freed
freed : (before now after : CellSeat) (at : Home) (place : ℕ) (owners_before owners_now : List ℕ) → Vacated before now at place owners_before owners_now → place < 64 → get_or owners_now place 0 ≡ at.group + 1
    → AreOwners (set owners_now place 0) (words_of_seat after) at.block → Rewrites at.block now after → Vacated before after at (place + 1) owners_before (set owners_now place 0)
freed before now after at place owners_before owners_now v less mine owned rewrites = let all = v.owners.all in
    let a = places_lost (at.group + 1) 0 place owners_now (omega arith) mine (λ e. omega arith) in
    let b = places_gained (at.group + 1) 0 place owners_now (omega arith) mine (λ e. omega arith) in let counts = v.counts in record {
      owners = owned;
      rewrites = rewrites-trans at.block before now after v.rewrites rewrites;
      writing = writing_on at.block now after at rewrites v.writing;
      gone = λ k inside. dite (ℕ_discrete k place)
          (λ e is. let z : get_or (set owners_now place 0) k 0 ≡ 0 = ap (λ (x : ℕ). get_or (set owners_now place 0) x 0) e ∙ get_or-set_same owners_now place 0 0 (omega arith) in omega arith)
          (λ other is. v.gone k (omega arith) (sym (get_or-set_other owners_now place k 0 0 other) ∙ is));
      counts = omega arith;
      others = λ o not_free not_mine. places_kept (at.group + 1) 0 place owners_now (omega arith) mine o not_mine not_free ∙ v.others o not_free not_mine;
    }

pub places-preserved : goal.places-preserved
places-preserved c = let at = home_of c.args.at in let before = c.args.seat.now in let now = c.places.seat in let place : ℕ = c.places.place in let o0 = c.args.owners.now in let o = c.places.owners in let less = c.places-test.true in
    elim c.if-owners-place.branch [
      | then-owners-place w ↦ subst (λ (x : CellSeat × List ℕ). Vacated before x.0 at (place + 1) o0 x.1) (λ i. (sym w.seat-is i, sym (w.owners-is ∙ w.release.ensures.freed) i))
          (freed before now w.release.new.seat at place o0 o c.places.invariant less w.if-owners-place.true (subst (λ (os : List ℕ). AreOwners os (words_of_seat w.release.new.seat) c.args.at.block) w.release.ensures.freed w.release.ensures.owners) w.release.ensures.rewrites)
      | else-owners-place w ↦ subst (λ (x : CellSeat × List ℕ). Vacated before x.0 at (place + 1) o0 x.1) (λ i. (sym w.seat-is i, sym w.owners-is i)) (skipped before now at place o0 o c.places.invariant w.if-owners-place.false)
    ]

pub returns-clause-mine : goal.returns-clause-mine
returns-clause-mine c = let v = c.places.invariant in none_left c.places.owners (words_of_seat c.places.seat) c.args.at.block (c.args.at.group + 1) v.owners (λ k less. v.gone k (omega arith))

pub returns-clause-free : goal.returns-clause-free
returns-clause-free c = let v = c.places.invariant in let counts = v.counts in let none : places_of (c.args.at.group + 1) c.places.owners ≡ 0 = none_left c.places.owners (words_of_seat c.places.seat) c.args.at.block (c.args.at.group + 1) v.owners (λ k less. v.gone k (omega arith)) in omega arith

pub returns-clause-none : goal.returns-clause-none
returns-clause-none c = let v = c.places.invariant in no_rows c.places.owners (words_of_seat c.places.seat) (home_of c.args.at) v.owners (λ k less. v.gone k (omega arith))
