use Rattle.std.proofs.Common.{arith, ℕ, List, inl, inr, refl, sym, ◌∙◌, ap, subst, set}
use Rattle.group_cell.specs.Layout.{home_of, high}
use Rattle.group_cell.specs.Seating.{AreOwners, words_of_seat}
use Rattle.group_cell.proofs.Groups.{IsOwn}
use Rattle.group_cell.proofs.Keeps.{stores_high}
use Rattle.group_cell.proofs.Placing.{owner_set}
use Rattle.group_cell.proofs.Rewriting.{words_are, rewrites_place}
use Rattle.group_cell.proofs.table.placing.release.Goals as goal

pub store-requires : goal.store-requires
store-requires c = let w = c.requires.writing in let k : ℕ = c.args.place in let wide = c.requires.inside.wide in let inside = c.requires.inside.inside in let b = inside.block in let here = c.high_word.ensures in let less = c.requires.place in
    let was : IsOwn c.args.at.group (high (words_of_seat c.args.seat.now) c.args.at.block k) = inr (sym (c.requires.owners.tags k less) ∙ c.requires.mine) in
    (c.requires.own, omega arith, stores_high _ _ _ _ w.writes (home_of c.args.at) inside k _ 0 w.writing less was (inl refl) here)

pub returns-clause-owners : goal.returns-clause-owners
returns-clause-owners c = let e = c.store.ensures in let words = words_of_seat c.args.seat.now in let k : ℕ = c.args.place in
    subst (λ (ws : List ℕ). AreOwners (set c.args.owners.now k 0) ws c.args.at.block)
    (ap (λ (i : ℕ). set words i 0) (sym c.high_word.ensures) ∙ sym (words_are c.args.seat.now c.store.new.seat c.high_word.result 0 (e.0, e.1) e.2))
    (owner_set c.args.owners.now words c.args.at.block k 0 0 c.requires.place (omega arith) c.requires.owners refl)

pub returns-clause-rewrites : goal.returns-clause-rewrites
returns-clause-rewrites c = let e = c.store.ensures in let here = c.high_word.ensures in let less = c.requires.place in rewrites_place c.args.seat.now c.store.new.seat c.high_word.result 0 (e.0, e.1) e.2 c.args.at.block (omega arith) (omega arith)
