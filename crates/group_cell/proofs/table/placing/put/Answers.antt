use Rattle.std.proofs.Common.{arith, ◌≡◌, ℕ, List, ◌+◌, [], ◌∷◌, ◌++◌, set, get_or, inl, inr, sym, ap, ◌∙◌, subst}
use Rattle.group_cell.specs.Layout.{home_of, high, low_word, high_word}
use Rattle.group_cell.specs.Rule.{RowsStand}
use Rattle.group_cell.specs.Seating.{AreOwners, words_of_seat}
use Rattle.group_cell.proofs.Groups.{IsOwn, tag_of_row}
use Rattle.group_cell.proofs.Keeps.{stores_low, stores_high}
use Rattle.group_cell.proofs.Placing.{placed, owner_set, owners_low, places_kept, places_lost, places_gained, spelled_items}
use Rattle.group_cell.proofs.Rewriting.{words_are, words_twice, still_in_writing, rewrites_place, rewrites-trans}
use Rattle.group_cell.proofs.table.placing.put.Goals as goal

pub store-requires : goal.store-requires
store-requires c = let w = c.requires.writing in let k = c.free_place-place.ensures in let wide = c.requires.inside.wide in let inside = c.requires.inside.inside in let b = inside.block in let here = c.low_word-low.ensures in
    (c.requires.own, omega arith, stores_low _ _ _ _ w.writes (home_of c.args.at) inside c.free_place-place.result _ _ w.writing k.0 (sym (c.requires.owners.tags c.free_place-place.result k.0) ∙ k.1) here)

pub store-requires-2 : goal.store-requires-2
store-requires-2 c = let w = c.requires.writing in let k = c.free_place-place.ensures in let wide = c.requires.inside.wide in let inside = c.requires.inside.inside in let b = inside.block in let here = c.high_word-high.ensures in
    let a = c.store.ensures in let place : ℕ = c.free_place-place.result in let block : ℕ = c.args.at.block in
    let w' = still_in_writing c.args.seat.now c.store.new.seat c.low_word-low.result (get_or c.row_words.result 0 0) (a.0, a.1) a.2 (home_of c.args.at) w in
    let spelled = spelled_items c.args.at.group c.args.row c.row_words.result c.row_words.ensures in
    let first : ℕ = get_or c.row_words.result 0 0 in
    let low = owners_low c.args.owners.now (words_of_seat c.args.seat.now) block place first c.requires.owners in
    let now : set (words_of_seat c.args.seat.now) (low_word block place) first ≡ words_of_seat c.store.new.seat = ap (λ (i : ℕ). set (words_of_seat c.args.seat.now) i first) (sym c.low_word-low.ensures) ∙ sym (words_are c.args.seat.now c.store.new.seat c.low_word-low.result (get_or c.row_words.result 0 0) (a.0, a.1) a.2) in
    let was : IsOwn c.args.at.group (high (words_of_seat c.store.new.seat) block place) = subst (λ (ws : List ℕ). IsOwn c.args.at.group (high ws block place)) now (inl (sym (low.tags place k.0) ∙ k.1)) in
    (a.0 ∙ c.requires.own, omega arith, stores_high _ _ _ _ w'.writes (home_of c.args.at) inside place _ _ w'.writing k.0 was (inr (tag_of_row c.args.at.group c.args.row (get_or c.row_words.result 0 0) (get_or c.row_words.result 1 0) spelled)) here)

pub returns-clause-owners : goal.returns-clause-owners
returns-clause-owners c = let k = c.free_place-place.ensures in let place : ℕ = c.free_place-place.result in let block : ℕ = c.args.at.block in let a = c.store.ensures in let e = c.store-2.ensures in
    let spelled = spelled_items c.args.at.group c.args.row c.row_words.result c.row_words.ensures in let first : ℕ = get_or c.row_words.result 0 0 in let second : ℕ = get_or c.row_words.result 1 0 in
    subst (λ (ws : List ℕ). AreOwners (set c.args.owners.now place (c.args.at.group + 1)) ws block) (sym (words_twice c.args.seat.now c.store.new.seat c.store-2.new.seat c.low_word-low.result c.high_word-high.result (get_or c.row_words.result 0 0) (get_or c.row_words.result 1 0) (a.0, a.1) a.2 (e.0, e.1) e.2 (low_word block place) (high_word block place) c.low_word-low.ensures c.high_word-high.ensures))
    (owner_set c.args.owners.now (set (words_of_seat c.args.seat.now) (low_word block place) first) block place (c.args.at.group + 1) second k.0 (let g = c.requires.inside.inside.group in omega arith)
    (owners_low c.args.owners.now (words_of_seat c.args.seat.now) block place first c.requires.owners) (tag_of_row c.args.at.group c.args.row first second spelled))

pub returns-clause-free : goal.returns-clause-free
returns-clause-free c = let k = c.free_place-place.ensures in let all = c.requires.owners.all in places_lost 0 (c.args.at.group + 1) c.free_place-place.result c.args.owners.now (omega arith) k.1 (λ e. omega arith)

pub returns-clause-mine : goal.returns-clause-mine
returns-clause-mine c = let k = c.free_place-place.ensures in let all = c.requires.owners.all in places_gained 0 (c.args.at.group + 1) c.free_place-place.result c.args.owners.now (omega arith) k.1 (λ e. omega arith)

pub returns-clause-others : goal.returns-clause-others
returns-clause-others c o not_free not_mine = let k = c.free_place-place.ensures in let all = c.requires.owners.all in places_kept 0 (c.args.at.group + 1) c.free_place-place.result c.args.owners.now (omega arith) k.1 o not_free not_mine

pub returns-clause-rewrites : goal.returns-clause-rewrites
returns-clause-rewrites c = let k = c.free_place-place.ensures in let a = c.store.ensures in let e = c.store-2.ensures in let low = c.low_word-low.ensures in let high_is = c.high_word-high.ensures in
    rewrites-trans c.args.at.block c.args.seat.now c.store.new.seat c.store-2.new.seat (rewrites_place c.args.seat.now c.store.new.seat c.low_word-low.result (get_or c.row_words.result 0 0) (a.0, a.1) a.2 c.args.at.block (omega arith) (omega arith)) (rewrites_place c.store.new.seat c.store-2.new.seat c.high_word-high.result (get_or c.row_words.result 1 0) (e.0, e.1) e.2 c.args.at.block (omega arith) (omega arith))

pub returns-clause-rows : goal.returns-clause-rows
returns-clause-rows c rows s = let k = c.free_place-place.ensures in let place : ℕ = c.free_place-place.result in let block : ℕ = c.args.at.block in let a = c.store.ensures in let e = c.store-2.ensures in
    let spelled = spelled_items c.args.at.group c.args.row c.row_words.result c.row_words.ensures in
    subst (λ (ws : List ℕ). RowsStand ws (home_of c.args.at) (rows ++ c.args.row ∷ [])) (sym (words_twice c.args.seat.now c.store.new.seat c.store-2.new.seat c.low_word-low.result c.high_word-high.result (get_or c.row_words.result 0 0) (get_or c.row_words.result 1 0) (a.0, a.1) a.2 (e.0, e.1) e.2 (low_word block place) (high_word block place) c.low_word-low.ensures c.high_word-high.ensures))
    (placed (words_of_seat c.args.seat.now) (home_of c.args.at) place (get_or c.row_words.result 0 0) (get_or c.row_words.result 1 0) c.args.row k.0 c.requires.owners.wide (sym (c.requires.owners.tags place k.0) ∙ k.1) spelled rows s)
