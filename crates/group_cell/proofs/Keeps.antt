-- Each step keeps the rule of the table.
use Rattle.std.proofs.Common.{◌≡◌, ℕ, zero, suc, ◌+◌, ◌/◌, ◌^◌, ◌<◌, ◌≢◌, ⊎_elim, List, [], ◌∷◌, length, get_or, set, refl, sym, ap, ◌∙◌, subst, arith, get_or-set_other, Option, Some, None}
use mathlib.Core.Option.{none, some, some-injective, some-ne-none}
use lib.ListN.{get_elem?}
use lib.Seq.{set-get_or}
use Rattle.atomic_table.specs.Table.{State, Me, step, keeps, Allows}
use Rattle.atomic_table.proofs.Lists.{at_set, set_else}
use Rattle.group_search.specs.declared.record.GroupRecord.{GroupRecord}
use Rattle.group_search.specs.Home.{Home}
use Rattle.group_search.specs.Published.{count}
use Rattle.group_cell.specs.declared.view.Sight.{Sight}
use Rattle.group_cell.specs.declared.view.WriterView.{WriterView}
use Rattle.group_cell.specs.declared.view.ReaderView.{ReaderView}
use Rattle.group_cell.specs.declared.view.View.{View}
use Rattle.group_cell.specs.declared.view.View.TheVariants.{Writer, Reader, Spent}
use Rattle.group_cell.specs.Opening.{Opened}
use Rattle.group_cell.specs.Layout.{data_words, address, home_of, home_of_word, high, high_word, low_word, data_word, sequence_word, sequence, tag}
use Rattle.group_cell.specs.Rule.{IsIn, Holds, nodes_of, Stands, Sees, AgreesWith, Kept}
use Rattle.group_cell.specs.Plays.{writer_view, reader_view, IsWriter, IsReader, begun, stored, ended, looking, loaded, load, looked, Asks, Begins, Stores, Ends, StartsLook, Loads, EndsLook}
use Rattle.group_cell.specs.Changes.{Untouched}
use Rattle.group_cell.proofs.Groups.{IsOwn, home_back, own_word, low_of_free, high_of_own, sequence_above_low, sequence_above_high, tag_of_own, tags_beside, tags_here}
use Rattle.group_cell.proofs.Writing.{Moves, sees_on, stays_put, begins_moves, begins_stands, stores_moves, stores_stands, ends_moves, ends_stands}
use Rattle.group_cell.proofs.Reading.{starts, halves, loads, reads_whole, ends}

pub at_changed : {A : Type 0} (l : List A) (i : ℕ) (a b : A) → get_elem? l i ≡ some a → get_elem? (set l i b) i ≡ some b
at_changed [] i a b e = absurd (some-ne-none a (sym e))
at_changed (x ∷ xs) zero a b e = refl
at_changed (x ∷ xs) (suc i) a b e = at_changed xs i a b e

abbrev Reads : View → Type 0
Reads (Reader r) = Unit {0}
Reads _ = ⊥

pub reader-ne-writer : (r : ReaderView) (w : WriterView) → some (Reader r) ≡ some (Writer w) → ⊥
reader-ne-writer r w e = subst Reads (some-injective (Reader r) (Writer w) e) tt

-- what another seat knows stays so
pub others_know : (w w' : WriterView) (writer j : ℕ) → j ≢ writer → Moves w w' → (v : View) → AgreesWith w writer j v → AgreesWith w' writer j v
others_know w w' writer j other m (Writer u) k = absurd (other k.0)
others_know w w' writer j other m (Reader r) k = sees_on w w' r m k
others_know w w' writer j other m Spent k = tt

module _ {S : Type 0} (key : Opened) where
  abbrev Rule : State S View → Type 0
  Rule = Kept key

  -- what a step of the writer's seat tells, before it is said in the step's own words
  abbrev pub Made : Me S View → ℕ → WriterView → ℕ → Me S View → Type 0
  Made me i w' x m = (m ≡ (Writer w', me.1)) × (x ≡ get_or (writer_view me.0).words i 0) × Stands (writer_view me.0)

  -- a step of the writer's seat, at which the word i becomes n
  pub writer_steps : (slots id : ℕ) (me : Me S View) (i n : ℕ) (f : ℕ → ℕ) (w' : WriterView) → IsWriter me.0
      → let w = writer_view me.0 in
      (Stands w → w.opening ≡ key → (f (get_or w.words i 0) ≡ n) × (w'.words ≡ set w.words i n) × Moves w w' × Stands w')
      → Allows Rule slots id me i f (Made me i w')
  writer_steps slots id me i n f w' is asked s k _ at _ =
      let w : WriterView = writer_view me.0 in
      let known : (id ≡ k.writer) × (w ≡ k.view) = subst (AgreesWith k.view k.writer id) is (k.each_seat id me.0 at) in
      let stands : Stands w = subst Stands (sym known.1) k.stands in
      let opened_with : w.opening ≡ key = ap (λ u. u.opening) known.1 ∙ k.opened in
      let t = asked stands opened_with in
      let same : s.words ≡ w.words = k.words ∙ ap (λ u. u.words) (sym known.1) in
      let found : get_or s.words i 0 ≡ get_or w.words i 0 = ap (λ l. get_or l i 0) same in (
        Writer w',
        keeps,
        tt,
        record {
          writer = id;
          view = w';
          seat = at_changed s.views id me.0 (Writer w') at;
          words = ap (λ (x : ℕ). set s.words i (f x)) found ∙ (ap (λ (x : ℕ). set s.words i x) t.0 ∙ (ap (λ l. set l i n) same ∙ sym t.1));
          opened = t.2.opening ∙ opened_with;
          stands = t.3;
          each_seat = λ j v e. ⊎_elim (λ (h : (j ≡ id) × (Writer w' ≡ v)). subst (AgreesWith w' id j) h.1 (h.0, refl))
              (λ (h : (j ≢ id) × (get_elem? s.views j ≡ some v)). others_know w w' id j h.0 t.2 v (subst (λ (x : ℕ × WriterView). AgreesWith x.1 x.0 j v) (λ l. (sym known.0 l, sym known.1 l)) (k.each_seat j v h.1)))
              (at_set s.views id j (Writer w') v e);
        },
        (refl, found, stands),
      )

  -- a load by a reader's seat
  pub reader_steps : (slots id : ℕ) (me : Me S View) (i : ℕ) (then : ℕ → Me S View → Type 0) → IsReader me.0
      → ((w : WriterView) → Stands w → w.opening ≡ key → Sees w (reader_view me.0) → (r' : ReaderView) × Sees w r' × then (get_or w.words i 0) (Reader r', me.1))
      → Allows Rule slots id me i (λ x. x) then
  reader_steps slots id me i then is asked s k _ at _ =
      let r : ReaderView = reader_view me.0 in let w : WriterView = k.view in
      let known : Sees w r = subst (AgreesWith w k.writer id) is (k.each_seat id me.0 at) in
      let t = asked w k.stands k.opened known in
      let apart : k.writer ≢ id = λ e. reader-ne-writer r w (ap some (sym is) ∙ (sym at ∙ (ap (get_elem? s.views) (sym e) ∙ k.seat))) in (
        Reader t.0,
        keeps,
        tt,
        record {
          writer = k.writer;
          view = w;
          seat = set_else s.views id k.writer (Reader t.0) apart ∙ k.seat;
          words = set-get_or s.words i 0 ∙ k.words;
          opened = k.opened;
          stands = k.stands;
          each_seat = λ j v e. ⊎_elim (λ (h : (j ≡ id) × (Reader t.0 ≡ v)). subst (AgreesWith w k.writer j) h.1 t.1) (λ (h : (j ≢ id) × (get_elem? s.views j ≡ some v)). k.each_seat j v h.1)
              (at_set s.views id j (Reader t.0) v e);
        },
        subst (λ (x : ℕ). then x (Reader t.0, me.1)) (ap (λ l. get_or l i 0) (sym k.words)) t.2,
      )

  weaken : (slots id : ℕ) (me : Me S View) (i : ℕ) (f : ℕ → ℕ) (P Q : ℕ → Me S View → Type 0) → ((x : ℕ) (m : Me S View) → P x m → Q x m) → Allows Rule slots id me i f P → Allows Rule slots id me i f Q
  weaken slots id me i f P Q so a s k len at small = let t = a s k len at small in (t.0, t.1, t.2, t.3, so _ _ t.4)

  -- the writer's steps
  module _ (slots id : ℕ) (me : Me S View) (is : IsWriter me.0) where
    abbrev w : WriterView
    w = writer_view me.0

    pub asks : (word : ℕ) → Allows Rule slots id me word (λ x. x) (Asks (step slots word 0 0 none) me)
    asks word = weaken slots id me word (λ x. x) (Made me word w) (Asks (step slots word 0 0 none) me) (λ x m h. (h.0 ∙ (λ l. (sym is l, me.1)), h.1, h.2))
        (writer_steps slots id me word (get_or w.words word 0) (λ x. x) w is (λ s _. (refl, sym (set-get_or w.words word 0), stays_put w, s)))

    module _ (at : Home) (inside : IsIn key at) where
      in_view : w.opening ≡ key → IsIn w.opening at
      in_view e = subst (λ (o : Opened). IsIn o at) (sym e) inside

      pub begins : (word odd : ℕ) → w.writing ≡ None → word ≡ sequence_word at → odd ≡ sequence w.words at + 1 → Allows Rule slots id me word (λ _. odd) (λ _. Begins (step slots word odd 0 none) me odd)
      begins word odd idle here up =
          weaken slots id me word (λ _. odd) (Made me word (begun at odd w)) (λ _. Begins (step slots word odd 0 none) me odd)
          (λ x m h. h.0 ∙ (let back : at ≡ home_of_word word = sym (ap home_of_word here ∙ home_back at inside.group) in λ l. (Writer (begun (back l) odd w), me.1)))
          (writer_steps slots id me word odd (λ _. odd) (begun at odd w) is
          (λ s e. let in_w = in_view e in (refl, ap (λ (k : ℕ). set w.words k odd) (sym here), begins_moves w at in_w s odd up, begins_stands w at in_w s odd up idle)))

      pub ends_writing : (content : GroupRecord) (word even : ℕ) → w.writing ≡ Some (address at) → word ≡ sequence_word at → even ≡ sequence w.words at + 1 → length w.published + 1 < 2 ^ 32
          → (w.opening ≡ key → Holds (nodes_of w.opening) w.words at content) → Allows Rule slots id me word (λ _. even) (λ _. Ends content (step slots word even 0 none) me even)
      ends_writing content word even writing here up room holds =
          weaken slots id me word (λ _. even) (Made me word (ended at content even w)) (λ _. Ends content (step slots word even 0 none) me even)
          (λ x m h. h.0 ∙ (let back : at ≡ home_of_word word = sym (ap home_of_word here ∙ home_back at inside.group) in λ l. (Writer (ended (back l) content even w), me.1)))
          (writer_steps slots id me word even (λ _. even) (ended at content even w) is
          (λ s e. let in_w = in_view e in (refl, ap (λ (k : ℕ). set w.words k even) (sym here), ends_moves w at in_w s content even up, ends_stands w at in_w s content even up writing room (holds e))))

      -- a data word
      pub stores_datum : (j word n : ℕ) → w.writing ≡ Some (address at) → j < data_words → word ≡ data_word at j → Allows Rule slots id me word (λ _. n) (λ _. Stores (step slots word n 0 none) me n)
      stores_datum j word n writing two here =
          weaken slots id me word (λ _. n) (Made me word (stored word n w)) (λ _. Stores (step slots word n 0 none) me n) (λ x m h. h.0)
          (writer_steps slots id me word n (λ _. n) (stored word n w) is
          (λ s e. let in_w = in_view e in
          let i_is : sequence_word at + (j + 1) ≡ word = omega arith in
          let others = λ (h : Home) (in_table : IsIn w.opening h) (apart : h ≢ at). subst (λ (i : ℕ). Untouched h w.words (set w.words i n)) i_is (own_word at inside.group w.words (j + 1) n (omega arith) h in_table.group apart) in
          let version : sequence (set w.words word n) at ≡ sequence w.words at = get_or-set_other w.words word (sequence_word at) n 0 (λ x. omega arith) in (
            refl,
            refl,
            stores_moves w at in_w s writing word n others version,
            stores_stands w at in_w s writing word n others version
                (tags_beside w.words (length w.opening.images) word n (λ block k less x. let g = inside.group in omega arith) s.places),
          )))

      -- the first word of a free place
      pub stores_low : (k word n : ℕ) → w.writing ≡ Some (address at) → k < 64 → tag (high w.words at.block k) ≡ 0 → word ≡ low_word at.block k → Allows Rule slots id me word (λ _. n) (λ _. Stores (step slots word n 0 none) me n)
      stores_low k word n writing less free here =
          subst (λ (i : ℕ). Allows Rule slots id me i (λ _. n) (λ _. Stores (step slots i n 0 none) me n)) (sym here)
          (weaken slots id me (low_word at.block k) (λ _. n) (Made me (low_word at.block k) (stored (low_word at.block k) n w)) (λ _. Stores (step slots (low_word at.block k) n 0 none) me n) (λ x m h. h.0)
          (writer_steps slots id me (low_word at.block k) n (λ _. n) (stored (low_word at.block k) n w) is
          (λ s e. let in_w = in_view e in
          let others = λ (h : Home) (in_table : IsIn w.opening h) (_ : h ≢ at). low_of_free w.words at.block k n less free h in_table.group in
          let version = sequence_above_low w.words at.block k n less at inside.group in (
            refl,
            refl,
            stores_moves w at in_w s writing (low_word at.block k) n others version,
            stores_stands w at in_w s writing (low_word at.block k) n others version
                (tags_beside w.words (length w.opening.images) (low_word at.block k) n (λ block i less' x. omega arith) s.places),
          ))))

      -- the second word of a place that is free or the group's
      pub stores_high : (k word n : ℕ) → w.writing ≡ Some (address at) → k < 64 → IsOwn at.group (high w.words at.block k) → IsOwn at.group n → word ≡ high_word at.block k
          → Allows Rule slots id me word (λ _. n) (λ _. Stores (step slots word n 0 none) me n)
      stores_high k word n writing less was now here =
          subst (λ (i : ℕ). Allows Rule slots id me i (λ _. n) (λ _. Stores (step slots i n 0 none) me n)) (sym here)
          (weaken slots id me (high_word at.block k) (λ _. n) (Made me (high_word at.block k) (stored (high_word at.block k) n w)) (λ _. Stores (step slots (high_word at.block k) n 0 none) me n) (λ x m h. h.0)
          (writer_steps slots id me (high_word at.block k) n (λ _. n) (stored (high_word at.block k) n w) is
          (λ s e. let in_w = in_view e in
          let room : high_word at.block k < length w.words = (let wide = s.wide in let b = in_w.block in omega arith) in
          let others = λ (h : Home) (in_table : IsIn w.opening h) (apart : h ≢ at). high_of_own w.words at.block k n less at refl room was now h in_table.group apart in
          let version = sequence_above_high w.words at.block k n less at inside.group in (
            refl,
            refl,
            stores_moves w at in_w s writing (high_word at.block k) n others version,
            stores_stands w at in_w s writing (high_word at.block k) n others version
                (tags_here w.words (length w.opening.images) at.block k n room (tag_of_own at.group n inside.group now) s.places),
          ))))

  -- a reader's steps
  module _ (slots id : ℕ) (me : Me S View) (is : IsReader me.0) where
    abbrev r : ReaderView
    r = reader_view me.0

    pub starts_look : (at : Home) (word : ℕ) → IsIn key at → word ≡ sequence_word at → Allows Rule slots id me word (λ x. x) (StartsLook (step slots word 0 0 none) me)
    starts_look at word inside here = reader_steps slots id me word (StartsLook (step slots word 0 0 none) me) is
        (λ w s e k. let in_w : IsIn w.opening at = subst (λ (o : Opened). IsIn o at) (sym e) inside in
        let back : at ≡ home_of_word word = sym (ap home_of_word here ∙ home_back at inside.group) in
        let half = halves w s at in_w in
        let found : sequence w.words at ≡ get_or w.words word 0 = ap (λ (i : ℕ). get_or w.words i 0) (sym here) in (
          looking (home_of_word word) (get_or w.words word 0) w.published r,
          subst (λ (x : Home × ℕ). Sees w (looking x.0 x.1 w.published r)) (λ l. (back l, found l)) (starts w r s k at in_w),
          (w.published, k.seen, ap (count w.published) (sym back) ∙ (half.0 ∙ ap (λ (n : ℕ). n / 2) found), subst (λ (n : ℕ). n < 2 ^ 33) found half.1, refl),
        ))

    pub loads_word : (l : Sight) (word : ℕ) → r.last ≡ Some l → l.second ≡ None → Allows Rule slots id me word (λ x. x) (Loads (step slots word 0 0 none) me)
    loads_word l word last alone = reader_steps slots id me word (Loads (step slots word 0 0 none) me) is
        (λ w s e k. (loaded (load word (get_or w.words word 0)) r, loads w r s k l word last alone, refl))

    pub ends_look : (l : Sight) (word : ℕ) → r.last ≡ Some l → word ≡ sequence_word (home_of l.at) → Allows Rule slots id me word (λ x. x) (EndsLook (step slots word 0 0 none) me)
    ends_look l word last here = reader_steps slots id me word (EndsLook (step slots word 0 0 none) me) is
        (λ w s e k. let found : get_or w.words word 0 ≡ sequence w.words (home_of l.at) = ap (λ (i : ℕ). get_or w.words i 0) here in (
          looked (get_or w.words word 0) r,
          subst (λ (n : ℕ). Sees w (looked n r)) (sym found) (ends w r s k l last),
          (
            refl,
            λ l' last' even again.
                let same : l ≡ l' = ap (the l) (sym last ∙ last') in
                let now : sequence w.words (home_of l'.at) ≡ l'.first = ap (λ (q : Sight). sequence w.words (home_of q.at)) (sym same) ∙ (sym found ∙ again) in
                reads_whole w r s k l' last' even now,
          ),
        ))
      where
        the : Sight → Option Sight → Sight
        the d None = d
        the d (Some x) = x
