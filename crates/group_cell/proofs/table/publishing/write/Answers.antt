use Rattle.std.proofs.Common.{arith, ◌≡◌, ℕ, ◌+◌, ◌<◌, List, get_or, set, refl, sym, ap, ◌∙◌, length, get_or-set_other, get_or-set_same}
use mathlib.Core.Logic.{dite}
use native.Mathlib.Decide.{ℕ_discrete}
use Rattle.group_search.specs.Home.{Home}
use Rattle.group_cell.specs.Layout.{home_of, data_word, datum}
use Rattle.group_cell.specs.Seating.{words_of_seat}
use Rattle.group_cell.proofs.Keeps.{stores_datum}
use Rattle.group_cell.proofs.Rewriting.{words_are, still_in_writing, writes_datum, data-self, data-trans}
use Rattle.group_cell.proofs.table.publishing.write.Goals as goal

-- one more data word is stored
one_more : (ws after : List ℕ) (at : Home) (number n i : ℕ) (words : List ℕ) → i ≡ data_word at number → after ≡ set ws i n → data_word at number < length ws → n ≡ get_or words number 0
    → ((j : ℕ) → j < number → datum ws at j ≡ get_or words j 0) → (j : ℕ) → j < number + 1 → datum after at j ≡ get_or words j 0
one_more ws after at number n i words here is room value before j less = dite (ℕ_discrete j number)
    (λ e. (λ l. get_or (is l) (data_word at (e l)) 0) ∙ ((λ l. get_or (set ws (here l) n) (data_word at number) 0) ∙ (get_or-set_same ws (data_word at number) n 0 room ∙ (value ∙ ap (λ (k : ℕ). get_or words k 0) (sym e)))))
    (λ other. ap (λ (l : List ℕ). datum l at j) is ∙ (get_or-set_other ws i (data_word at j) n 0 (λ e. other (omega arith)) ∙ before j (omega arith)))

pub stores-init : goal.stores-init
stores-init c = record {
  writes = data-self (home_of c.args.at) c.args.seat.now c.requires.writing.writes;
  writing = c.requires.writing;
  data_words = λ j less. absurd (omega arith);
}

pub store-requires : goal.store-requires
store-requires c = let wide = c.requires.inside.wide in let inside = c.requires.inside.inside in let b = inside.block in let g = inside.group in let here = c.data_word.ensures in let i = c.stores.invariant in
    (i.writes.same.0 ∙ c.requires.own, omega arith, stores_datum _ _ _ _ i.writing.writes (home_of c.args.at) inside c.stores.number _ _ i.writing.writing (omega arith) here)

pub stores-preserved : goal.stores-preserved
stores-preserved c = let i = c.stores.invariant in let a = c.store.ensures in let here = c.data_word.ensures in let at = home_of c.args.at in let wide = c.requires.wide in let same_wide = i.writes.wide in let g = c.requires.inside.inside.group in
    let s = c.stores.seat in let t = c.store.new.seat in let word : ℕ = c.data_word.result in let value : ℕ = get_or c.args.words c.stores.number 0 in let number : ℕ = c.stores.number in record {
      writes = data-trans at c.args.seat.now s t i.writes (writes_datum s t word value (a.0, a.1) a.2 at number (omega arith) here);
      writing = still_in_writing s t word value (a.0, a.1) a.2 at i.writing;
      data_words = one_more (words_of_seat s) (words_of_seat t) at number value word c.args.words here (words_are s t word value (a.0, a.1) a.2) (omega arith) refl i.data_words;
    }
