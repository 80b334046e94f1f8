-- The writer's seat after each of its stores.
use Rattle.std.proofs.Common.{◌≡◌, ℕ, ◌+◌, ◌*◌, ◌<◌, ◌≤◌, ◌≢◌, ⊎_elim, List, [], length, get_or, set, refl, sym, ap, ◌∙◌, subst, arith, length-set, get_or-set_other}
use Rattle.atomic_table.specs.Table.{Me}
use Rattle.group_search.specs.Home.{Home}
use Rattle.group_cell.specs.declared.view.WriterView.{WriterView}
use Rattle.group_cell.specs.declared.view.View.{View}
use Rattle.group_cell.specs.declared.view.View.TheVariants.{Writer}
use Rattle.group_cell.specs.Layout.{block_words, row_words, data_words, data_word}
use Rattle.group_cell.specs.Plays.{writer_view, IsWriter, stored}
use Rattle.group_cell.specs.Seating.{CellSeat, IsSameSeat, IsInWriting, Rewrites, WritesData, words_of_seat}

module _ (s t : CellSeat) (i n : ℕ) (same : IsSameSeat s t) (e : t.me ≡ (Writer (stored i n (writer_view s.me.0)), s.me.1)) where
  pub words_are : words_of_seat t ≡ set (words_of_seat s) i n
  words_are = ap (λ (m : Me ℕ View). (writer_view m.0).words) e

  pub still_writes : IsWriter t.me.0
  still_writes = subst (λ (m : Me ℕ View). IsWriter m.0) (sym e) refl

  pub still_in_writing : (at : Home) → IsInWriting s at → IsInWriting t at
  still_in_writing at w = record { writes = still_writes; writing = ap (λ (m : Me ℕ View). (writer_view m.0).writing) e ∙ w.writing }

  word_else : (j : ℕ) → j ≢ i → get_or (words_of_seat t) j 0 ≡ get_or (words_of_seat s) j 0
  word_else j other = ap (λ (ws : List ℕ). get_or ws j 0) words_are ∙ get_or-set_other (words_of_seat s) i j n 0 other

  -- the word is one of a place of the block
  pub rewrites_place : (block : ℕ) → block_words * block ≤ i → i < block_words * block + row_words → Rewrites block s t
  rewrites_place block from below = record {
    same = same;
    writes = still_writes;
    view = ap (λ (m : Me ℕ View). record (writer_view m.0) { words = [] }) e;
    wide = ap length words_are ∙ length-set (words_of_seat s) i n;
    beside = λ j apart. word_else j (⊎_elim (λ (less : j < block_words * block). λ (is : j ≡ i). omega arith) (λ (le : block_words * block + row_words ≤ j). λ (is : j ≡ i). omega arith) apart);
    bare = ap (λ (m : Me ℕ View). m.1) e;
  }

  -- the word is one of the group's data words
  pub writes_datum : (at : Home) (j : ℕ) → j < data_words → i ≡ data_word at j → WritesData at s t
  writes_datum at j two here = record {
    same = same;
    writes = still_writes;
    view = ap (λ (m : Me ℕ View). record (writer_view m.0) { words = [] }) e;
    wide = ap length words_are ∙ length-set (words_of_seat s) i n;
    beside = λ k apart. word_else k (⊎_elim (λ (less : k < data_word at 0). λ (is : k ≡ i). omega arith) (λ (le : data_word at data_words ≤ k). λ (is : k ≡ i). omega arith) apart);
    bare = ap (λ (m : Me ℕ View). m.1) e;
  }

pub rewrites-self : (block : ℕ) (s : CellSeat) → IsWriter s.me.0 → Rewrites block s s
rewrites-self block s w = record { same = (refl, refl); writes = w; view = refl; wide = refl; beside = λ i _. refl; bare = refl }

pub rewrites-trans : (block : ℕ) (r s t : CellSeat) → Rewrites block r s → Rewrites block s t → Rewrites block r t
rewrites-trans block r s t a b = record {
  same = (b.same.0 ∙ a.same.0, b.same.1 ∙ a.same.1);
  writes = b.writes;
  view = b.view ∙ a.view;
  wide = b.wide ∙ a.wide;
  beside = λ i apart. b.beside i apart ∙ a.beside i apart;
  bare = b.bare ∙ a.bare;
}

pub writing_on : (block : ℕ) (s t : CellSeat) (at : Home) → Rewrites block s t → IsInWriting s at → IsInWriting t at
writing_on block s t at r w = record { writes = r.writes; writing = ap (λ (u : WriterView). u.writing) r.view ∙ w.writing }

pub data-self : (at : Home) (s : CellSeat) → IsWriter s.me.0 → WritesData at s s
data-self at s w = record { same = (refl, refl); writes = w; view = refl; wide = refl; beside = λ i _. refl; bare = refl }

pub data-trans : (at : Home) (r s t : CellSeat) → WritesData at r s → WritesData at s t → WritesData at r t
data-trans at r s t a b = record {
  same = (b.same.0 ∙ a.same.0, b.same.1 ∙ a.same.1);
  writes = b.writes;
  view = b.view ∙ a.view;
  wide = b.wide ∙ a.wide;
  beside = λ i apart. b.beside i apart ∙ a.beside i apart;
  bare = b.bare ∙ a.bare;
}

-- two stores, one after the other
module _ (s t u : CellSeat) (i j a b : ℕ) (same : IsSameSeat s t) (e : t.me ≡ (Writer (stored i a (writer_view s.me.0)), s.me.1)) (same' : IsSameSeat t u) (e' : u.me ≡ (Writer (stored j b (writer_view t.me.0)), t.me.1)) where
  pub words_twice : (i' j' : ℕ) → i ≡ i' → j ≡ j' → words_of_seat u ≡ set (set (words_of_seat s) i' a) j' b
  words_twice i' j' at_i at_j = words_are t u j b same' e' ∙ ((λ l. set (words_are s t i a same e l) (at_j l) b) ∙ ap (λ (k : ℕ). set (set (words_of_seat s) k a) j' b) at_i)
