use Rattle.std.proofs.Common.{arith, ℕ, ◌+◌, List, [], ◌∷◌, ◌++◌, get_or, set, sym, ◌∙◌, subst}
use Rattle.group_cell.specs.Laying.{in_front}
use Rattle.group_cell.specs.Rule.{RowsStand}
use Rattle.group_cell.proofs.Groups.{tag_of_row}
use Rattle.group_cell.proofs.Placing.{placed, places_lost, places_gained, spelled_items}
use Rattle.group_cell.proofs.Laid.{row_leaves, row_owners, row_version}
use Rattle.group_cell.proofs.table.laying.lay_row.Goals as goal

pub returns-clause-owners : goal.returns-clause-owners
returns-clause-owners c = let k = c.free_place-place.ensures in let first : ℕ = get_or c.row_words.result 0 0 in let second : ℕ = get_or c.row_words.result 1 0 in
    row_owners c.args.words.now c.args.owners.now c.args.group c.free_place-place.result first second c.low_word.result c.high_word.result c.requires.group k.0 c.requires.owners k.1
    (tag_of_row c.args.group c.args.row first second (spelled_items c.args.group c.args.row c.row_words.result c.row_words.ensures)) c.low_word.ensures c.high_word.ensures

pub returns-clause-free : goal.returns-clause-free
returns-clause-free c = let k = c.free_place-place.ensures in let all = c.requires.owners.all in places_lost 0 (c.args.group + 1) c.free_place-place.result c.args.owners.now (omega arith) k.1 (λ e. omega arith)

pub returns-clause-mine : goal.returns-clause-mine
returns-clause-mine c = let k = c.free_place-place.ensures in let all = c.requires.owners.all in places_gained 0 (c.args.group + 1) c.free_place-place.result c.args.owners.now (omega arith) k.1 (λ e. omega arith)

pub returns-clause-others : goal.returns-clause-others
returns-clause-others c = let k = c.free_place-place.ensures in let first : ℕ = get_or c.row_words.result 0 0 in let second : ℕ = get_or c.row_words.result 1 0 in
    row_leaves c.args.words.now c.args.owners.now c.args.group c.free_place-place.result first second c.low_word.result c.high_word.result c.requires.group k.0 c.requires.owners k.1
    (tag_of_row c.args.group c.args.row first second (spelled_items c.args.group c.args.row c.row_words.result c.row_words.ensures)) c.low_word.ensures c.high_word.ensures

pub returns-clause-version : goal.returns-clause-version
returns-clause-version c = let k = c.free_place-place.ensures in let first : ℕ = get_or c.row_words.result 0 0 in let second : ℕ = get_or c.row_words.result 1 0 in
    row_version c.args.words.now c.args.owners.now c.args.group c.free_place-place.result first second c.low_word.result c.high_word.result c.requires.group k.0 c.requires.owners k.1
    (tag_of_row c.args.group c.args.row first second (spelled_items c.args.group c.args.row c.row_words.result c.row_words.ensures)) c.low_word.ensures c.high_word.ensures

pub returns-clause-rows : goal.returns-clause-rows
returns-clause-rows c rows s = let k = c.free_place-place.ensures in let place : ℕ = c.free_place-place.result in let first : ℕ = get_or c.row_words.result 0 0 in let second : ℕ = get_or c.row_words.result 1 0 in
    let words : List ℕ = c.args.words.now in
    subst (λ (ws : List ℕ). RowsStand ws (in_front c.args.group) (rows ++ c.args.row ∷ [])) (λ i. set (set words (sym c.low_word.ensures i) first) (sym c.high_word.ensures i) second)
    (placed words (in_front c.args.group) place first second c.args.row k.0 c.requires.owners.wide (sym (c.requires.owners.tags place k.0) ∙ k.1) (spelled_items c.args.group c.args.row c.row_words.result c.row_words.ensures) rows s)
