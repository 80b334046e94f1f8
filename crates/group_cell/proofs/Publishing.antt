-- A whole publication: what the writer's seat knows and keeps after each of its steps.
use Rattle.std.proofs.Common.{◌≡◌, ℕ, ◌+◌, ◌-◌, ◌*◌, ◌<◌, ◌≤◌, ◌≢◌, ◌⊎◌, inl, inr, ⊎_elim, List, [], ◌∷◌, ◌++◌, length, get_or, set, refl, sym, ap, ◌∙◌, subst, arith, length-set, get_or-set_other, get_or-set_same}
use mathlib.Core.Logic.{dite}
use native.Mathlib.Decide.{ℕ_discrete}
use Rattle.atomic_table.specs.Table.{Me}
use Rattle.flow_types.specs.Size.{value_bits}
use Rattle.group_search.specs.declared.published.Publication.{Publication}
use Rattle.group_search.specs.declared.record.GroupRecord.{GroupRecord}
use Rattle.group_search.specs.Canon.{rows_in}
use Rattle.group_search.specs.Home.{Home}
use Rattle.group_search.specs.Words.{PacksTo, packed_of, words_of}
use Rattle.group_cell.specs.declared.view.View.{View}
use Rattle.group_cell.specs.declared.view.WriterView.{WriterView}
use Rattle.group_cell.specs.Opening.{Opened}
use Rattle.group_cell.specs.Layout.{block_words, data_words, low_word, high_word, sequence_word, low, high, sequence, datum}
use Rattle.group_search.specs.Records.{HasNodes}
use Rattle.group_cell.specs.Rule.{Holds, IsIn, IsSoundRecord, RowsStand, latest, rows_placed}
use Rattle.group_cell.specs.Plays.{writer_view, IsWriter, begun, ended, publication}
use Rattle.group_cell.specs.Seating.{CellSeat, AreOwners, IsInWriting, IsWriterSeat, Rewrites, Tallies, Writes, WritesData, places_of, words_of_seat}
use Rattle.std.proofs.lemmas.List.{get_or_default}
use Rattle.group_cell.proofs.Versions.{one_home, latest_here, latest_else}
use Rattle.group_cell.proofs.Groups.{rows_at}
use Rattle.group_cell.proofs.Placing.{owners_on}

-- the word is none of the block's
abbrev pub IsFar : (block word : ℕ) → Type 0
IsFar block word = (word < block_words * block) ⊎ (block_words * block + block_words ≤ word)

module _ (s0 s1 s2 s3 s4 : CellSeat) (at : Home) (few : at.group < 64) (odd : ℕ) (b : Writes s0 s1 (begun at odd (writer_view s0.me.0)))
    (v : Rewrites at.block s1 s2) (l : Rewrites at.block s2 s3) (d : WritesData at s3 s4) where
  begun_words : words_of_seat s1 ≡ set (words_of_seat s0) (sequence_word at) odd
  begun_words = ap (λ (m : Me ℕ View). (writer_view m.0).words) b.me

  begun_else : (i : ℕ) → i ≢ sequence_word at → get_or (words_of_seat s1) i 0 ≡ get_or (words_of_seat s0) i 0
  begun_else i other = ap (λ (ws : List ℕ). get_or ws i 0) begun_words ∙ get_or-set_other (words_of_seat s0) (sequence_word at) i odd 0 other

  pub begun_writing : IsInWriting s1 at
  begun_writing = record {
    writes = subst (λ (m : Me ℕ View). IsWriter m.0) (sym b.me) refl;
    writing = ap (λ (m : Me ℕ View). (writer_view m.0).writing) b.me;
  }

  -- the owners are the same where the group's sequence word is odd
  pub begun_owners : (owners : List ℕ) → AreOwners owners (words_of_seat s0) at.block → AreOwners owners (words_of_seat s1) at.block
  begun_owners owners = owners_on owners (words_of_seat s0) (words_of_seat s1) at.block (ap length begun_words ∙ length-set (words_of_seat s0) (sequence_word at) odd)
      (λ k less. begun_else (high_word at.block k) (λ e. omega arith))

  pub view_now : record (writer_view s4.me.0) { words = [] } ≡ record (begun at odd (writer_view s0.me.0)) { words = [] }
  view_now = d.view ∙ (l.view ∙ (v.view ∙ ap (λ (m : Me ℕ View). record (writer_view m.0) { words = [] }) b.me))

  pub opening_now : (writer_view s4.me.0).opening ≡ (writer_view s0.me.0).opening
  opening_now = ap (λ (w : WriterView). w.opening) view_now

  pub published_now : (writer_view s4.me.0).published ≡ (writer_view s0.me.0).published
  published_now = ap (λ (w : WriterView). w.published) view_now

  pub in_writing_now : IsInWriting s4 at
  in_writing_now = record { writes = d.writes; writing = ap (λ (w : WriterView). w.writing) view_now }

  pub wide_now : length (words_of_seat s4) ≡ length (words_of_seat s0)
  wide_now = d.wide ∙ (l.wide ∙ (v.wide ∙ (ap length begun_words ∙ length-set (words_of_seat s0) (sequence_word at) odd)))

  pub sequence_now : sequence (words_of_seat s4) at ≡ sequence (words_of_seat s1) at
  sequence_now = d.beside (sequence_word at) (inl (omega arith)) ∙ (l.beside (sequence_word at) (inr (omega arith)) ∙ v.beside (sequence_word at) (inr (omega arith)))

  -- the words of places, and of other blocks, don't change with the data words
  pub high_now : (k : ℕ) → k < 64 → high (words_of_seat s4) at.block k ≡ high (words_of_seat s3) at.block k
  high_now k less = d.beside (high_word at.block k) (inl (omega arith))

  pub low_now : (k : ℕ) → k < 64 → low (words_of_seat s4) at.block k ≡ low (words_of_seat s3) at.block k
  low_now k less = d.beside (low_word at.block k) (inl (omega arith))

  pub far_now : (i : ℕ) → IsFar at.block i → get_or (words_of_seat s4) i 0 ≡ get_or (words_of_seat s0) i 0
  far_now i far =
      d.beside i (⊎_elim (λ (less : i < block_words * at.block). inl (omega arith)) (λ (le : block_words * at.block + block_words ≤ i). inr (omega arith)) far)
      ∙ (l.beside i (⊎_elim (λ (less : i < block_words * at.block). inl less) (λ (le : block_words * at.block + block_words ≤ i). inr (omega arith)) far)
      ∙ (v.beside i (⊎_elim (λ (less : i < block_words * at.block). inl less) (λ (le : block_words * at.block + block_words ≤ i). inr (omega arith)) far)
      ∙ begun_else i (⊎_elim (λ (less : i < block_words * at.block). λ (e : i ≡ sequence_word at). omega arith) (λ (le : block_words * at.block + block_words ≤ i). λ (e : i ≡ sequence_word at). omega arith) far)))

  -- the record stands before it is published
  pub holds_now : (nodes : ℕ) (content : GroupRecord) (words : List ℕ) → words ≡ words_of content → PacksTo (value_bits nodes) (packed_of content) words → IsSoundRecord content → HasNodes nodes content
      → ((j : ℕ) → j < data_words → datum (words_of_seat s4) at j ≡ get_or words j 0) → RowsStand (words_of_seat s3) at (rows_placed content) → Holds nodes (words_of_seat s4) at content
  holds_now nodes content words is packs sound in_cluster data_words rows = record {
    data_words = λ j two. data_words j two ∙ ap (λ (ws : List ℕ). get_or ws j 0) is;
    packs = subst (PacksTo (value_bits nodes) (packed_of content)) is packs;
    rows = rows_at (words_of_seat s3) (words_of_seat s4) at at refl (λ k less. (high_now k less, low_now k less)) (rows_placed content) rows;
    sound = sound;
    in_cluster = in_cluster;
  }

either_side : (x y : ℕ) → x ≢ y → (x < y) ⊎ (y < x)
either_side x y apart = dite (ℕ_discrete (x - y) 0) (λ e. inl (omega arith)) (λ e. inr (omega arith))

-- the places of another block
far_place : (block other k : ℕ) → other ≢ block → k < 64 → IsFar block (high_word other k)
far_place block other k apart less = ⊎_elim (λ (e : other < block). inl (omega arith)) (λ (e : block < other). inr (omega arith)) (either_side other block apart)

-- what the writer's seat keeps after the publication
module _ (w w' : WriterView) (owners : List (List ℕ)) (at : Home) (content : GroupRecord) (mine : List ℕ) (t : Tallies owners w) (inside : IsIn w.opening at)
    (opening : w'.opening ≡ w.opening) (published : w'.published ≡ w.published ++ publication at content ∷ []) (wide : length w'.words ≡ length w.words)
    (far : (i : ℕ) → IsFar at.block i → get_or w'.words i 0 ≡ get_or w.words i 0) (owned : AreOwners mine w'.words at.block) (counted : places_of (at.group + 1) mine ≡ rows_in content)
    (others : (o : ℕ) → o ≢ 0 → o ≢ at.group + 1 → places_of o mine ≡ places_of o (get_or owners at.block [])) where
  is_owned : at.block < length owners
  is_owned = let one = t.one_each in let b = inside.block in omega arith

  one_opening : length w'.opening.images ≡ length w.opening.images
  one_opening = ap (λ (o : Opened). length o.images) opening

  latest_is : (h : Home) → latest w'.opening w'.published h ≡ latest w.opening (w.published ++ publication at content ∷ []) h
  latest_is h = λ i. latest (opening i) (published i) h

  owners_at : (block : ℕ) → block ≢ at.block → get_or (set owners at.block mine) block [] ≡ get_or owners block []
  owners_at block other = get_or-set_other owners at.block block mine [] other

  owners_here : get_or (set owners at.block mine) at.block [] ≡ mine
  owners_here = get_or-set_same owners at.block mine [] is_owned

  placed : (block : ℕ) → block < length w'.opening.images → AreOwners (get_or (set owners at.block mine) block []) w'.words block
  placed block in_table = let one = one_opening in dite (ℕ_discrete block at.block)
      (λ e. subst (λ (x : ℕ). AreOwners (get_or (set owners at.block mine) x []) w'.words x) (sym e) (subst (λ (os : List ℕ). AreOwners os w'.words at.block) (sym owners_here) owned))
      (λ other. subst (λ (os : List ℕ). AreOwners os w'.words block) (sym (owners_at block other))
      (owners_on (get_or owners block []) w.words w'.words block wide (λ k less. far (high_word block k) (far_place at.block block k other less)) (t.placed block (omega arith))))

  counts : (h : Home) → IsIn w'.opening h → places_of (h.group + 1) (get_or (set owners at.block mine) h.block []) ≡ rows_in (latest w'.opening w'.published h)
  counts h in_table = let in_w : IsIn w.opening h = subst (λ (o : Opened). IsIn o h) opening in_table in dite (ℕ_discrete h.block at.block)
      (λ b. dite (ℕ_discrete h.group at.group)
      (λ g. (λ i. places_of (g i + 1) (get_or (set owners at.block mine) (b i) [])) ∙ (ap (places_of (at.group + 1)) owners_here
      ∙ (counted ∙ ap rows_in (sym (latest_is h ∙ latest_here w.published (publication at content) h w.opening.images (sym (one_home h at b g)))))))
      (λ other. ap (λ (x : ℕ). places_of (h.group + 1) (get_or (set owners at.block mine) x [])) b
      ∙ (ap (places_of (h.group + 1)) owners_here ∙ (others (h.group + 1) (λ e. omega arith) (λ e. other (omega arith))
      ∙ (ap (λ (x : ℕ). places_of (h.group + 1) (get_or owners x [])) (sym b)
      ∙ (t.counted h in_w ∙ ap rows_in (sym (latest_is h ∙ latest_else w.published (publication at content) h w.opening.images (λ e. other (ap (λ (x : Home). x.group) (sym e)))))))))))
      (λ other. ap (places_of (h.group + 1)) (owners_at h.block other)
      ∙ (t.counted h in_w ∙ ap rows_in (sym (latest_is h ∙ latest_else w.published (publication at content) h w.opening.images (λ e. other (ap (λ (x : Home). x.block) (sym e)))))))

  pub tallies_now : Tallies (set owners at.block mine) w'
  tallies_now = record {
    one_each = length-set owners at.block mine ∙ (t.one_each ∙ sym one_opening);
    placed = placed;
    counted = counts;
  }

-- what the writer's seat is and keeps after the last store
module _ (s0 s1 s2 s3 s4 s5 : CellSeat) (at : Home) (few : at.group < 64) (odd even : ℕ) (content : GroupRecord) (b : Writes s0 s1 (begun at odd (writer_view s0.me.0)))
    (v : Rewrites at.block s1 s2) (l : Rewrites at.block s2 s3) (d : WritesData at s3 s4) (e : Writes s4 s5 (ended at content even (writer_view s4.me.0))) where
  ended_words : words_of_seat s5 ≡ set (words_of_seat s4) (sequence_word at) even
  ended_words = ap (λ (m : Me ℕ View). (writer_view m.0).words) e.me

  ended_else : (i : ℕ) → i ≢ sequence_word at → get_or (words_of_seat s5) i 0 ≡ get_or (words_of_seat s4) i 0
  ended_else i other = ap (λ (ws : List ℕ). get_or ws i 0) ended_words ∙ get_or-set_other (words_of_seat s4) (sequence_word at) i even 0 other

  pub seat_after : IsWriterSeat s0 → IsWriterSeat s5
  seat_after w = record {
    writes = subst (λ (m : Me ℕ View). IsWriter m.0) (sym e.me) refl;
    rests = ap (λ (m : Me ℕ View). (writer_view m.0).writing) e.me;
    bare = ap (λ (m : Me ℕ View). m.1) e.me ∙ (d.bare ∙ (l.bare ∙ (v.bare ∙ (ap (λ (m : Me ℕ View). m.1) b.me ∙ w.bare))));
  }

  pub tallies_after : (owners : List (List ℕ)) (mine : List ℕ) → Tallies owners (writer_view s0.me.0) → IsIn (writer_view s0.me.0).opening at → AreOwners mine (words_of_seat s3) at.block → places_of (at.group + 1) mine ≡ rows_in content
      → ((o : ℕ) → o ≢ 0 → o ≢ at.group + 1 → places_of o mine ≡ places_of o (get_or owners at.block [])) → Tallies (set owners at.block mine) (writer_view s5.me.0)
  tallies_after owners mine t inside owned counted others = tallies_now (writer_view s0.me.0) (writer_view s5.me.0) owners at content mine t inside
      (ap (λ (m : Me ℕ View). (writer_view m.0).opening) e.me ∙ opening_now s0 s1 s2 s3 s4 at few odd b v l d)
      (ap (λ (m : Me ℕ View). (writer_view m.0).published) e.me ∙ ap (λ (ps : List Publication). ps ++ publication at content ∷ []) (published_now s0 s1 s2 s3 s4 at few odd b v l d))
      (ap length ended_words ∙ (length-set (words_of_seat s4) (sequence_word at) even ∙ wide_now s0 s1 s2 s3 s4 at few odd b v l d))
      (λ i far. ended_else i (⊎_elim (λ (less : i < block_words * at.block). λ (x : i ≡ sequence_word at). omega arith) (λ (le : block_words * at.block + block_words ≤ i). λ (x : i ≡ sequence_word at). omega arith) far) ∙ far_now s0 s1 s2 s3 s4 at few odd b v l d i far)
      (owners_on mine (words_of_seat s4) (words_of_seat s5) at.block (ap length ended_words ∙ length-set (words_of_seat s4) (sequence_word at) even) (λ k less. ended_else (high_word at.block k) (λ x. omega arith))
      (owners_on mine (words_of_seat s3) (words_of_seat s4) at.block d.wide (λ k less. high_now s0 s1 s2 s3 s4 at few odd b v l d k less) owned))
      counted others

-- the block's owners, as an item of the list
pub item_is : (owners : List (List ℕ)) (block from : ℕ) (mine : List ℕ) → mine ≡ get_or owners from mine → from ≡ block → block < length owners → mine ≡ get_or owners block []
item_is owners block from mine is at less = is ∙ (ap (λ (k : ℕ). get_or owners k mine) at ∙ get_or_default owners block mine [] less)

pub in_owners : (owners : List (List ℕ)) (w : WriterView) (o : Opened) (at : Home) → Tallies owners w → w.opening ≡ o → IsIn o at → at.block < length owners
in_owners owners w o at t e inside = let one = t.one_each in let in_w : IsIn w.opening at = subst (λ (x : Opened). IsIn x at) (sym e) inside in let b = in_w.block in omega arith
