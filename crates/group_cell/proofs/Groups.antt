-- What a store of one word leaves of the groups.
use Rattle.std.proofs.Common.{◌≡◌, ℕ, ◌+◌, ◌/◌, ◌^◌, ◌<◌, ◌≤◌, ◌≢◌, ◌⊎◌, inl, inr, ⊎_elim, List, [], ◌∷◌, length, get_or, set, refl, sym, ap, ◌∙◌, subst, arith, get_or-set_other, get_or-set_same}
use mathlib.Core.Logic.{dite}
use native.Mathlib.Decide.{ℕ_discrete}
use Rattle.group_search.specs.declared.record.GroupRecord.{GroupRecord}
use Rattle.group_search.specs.declared.rows.Row.{Row}
use Rattle.group_search.specs.Home.{Home}
use Rattle.group_search.specs.RowWords.{SpellsRow}
use Rattle.group_search.proofs.RowWordLemmas.{group_above}
use Rattle.group_cell.specs.Layout.{data_words, home_of_word, low_word, high_word, sequence_word, data_word, low, high, place_words, sequence, datum, tag}
use Rattle.group_cell.specs.Rule.{AreTagged, RowsStand, Holds, rows_placed}
use Rattle.group_cell.specs.Changes.{SameGroup, Untouched}
use Rattle.group_cell.proofs.Versions.{one_home}

pub untouched-self : (at : Home) (words : List ℕ) → Untouched at words words
untouched-self at words = record { version = refl; group = record { data_words = λ j _. refl; rows = λ k _ _. (refl, refl) } }

-- the tag of a place with a row
pub tag_of_row : (g : ℕ) (row : Row) (first second : ℕ) → SpellsRow g row (first ∷ second ∷ []) → tag second ≡ g + 1
tag_of_row g row first second s = let t = group_above g row (first ∷ second ∷ []) s in let is : second / 2 ^ 48 ≡ g + 1 = t.0 in let few = t.1 in omega arith

module _ (at : Home) (words words' : List ℕ) (same : SameGroup at words words') where
  same_place : (k : ℕ) → (high words' at.block k ≡ high words at.block k) × (low words' at.block k ≡ low words at.block k) → place_words words' at.block k ≡ place_words words at.block k
  same_place k e = λ i. e.1 i ∷ e.0 i ∷ []

  pub rows_on : (rows : List Row) → RowsStand words at rows → RowsStand words' at rows
  rows_on rows s = record {
    place_of = s.place_of;
    inside = s.inside;
    holds = λ i row is. let k : ℕ = s.place_of i in let t = s.holds i row is in
        let e = same.rows k (s.inside i row is) (inl (tag_of_row at.group row (low words at.block k) (high words at.block k) t)) in subst (SpellsRow at.group row) (sym (same_place k e)) t;
    apart = s.apart;
    tagged = λ k less is. let e = same.rows k less (inr is) in s.tagged k less (ap tag (sym e.0) ∙ is);
  }

  pub holds_on : (nodes : ℕ) (content : GroupRecord) → Holds nodes words at content → Holds nodes words' at content
  holds_on nodes content h = record {
    data_words = λ j two. same.data_words j two ∙ h.data_words j two;
    packs = h.packs;
    rows = rows_on (rows_placed content) h.rows;
    sound = h.sound;
    in_cluster = h.in_cluster;
  }

-- a word of a group stands above its block's places, and apart from the words of other groups
module _ (at : Home) (few : at.group < 64) where
  pub home_back : home_of_word (sequence_word at) ≡ at
  home_back = one_home (home_of_word (sequence_word at)) at (omega arith) (omega arith)

  module _ (words : List ℕ) (i n : ℕ) (own : i < 3) where
    abbrev after : List ℕ
    after = set words (sequence_word at + i) n

    pub high_beside : (block k : ℕ) → k < 64 → high after block k ≡ high words block k
    high_beside block k less = get_or-set_other words (sequence_word at + i) (high_word block k) n 0 (λ e. omega arith)

    pub low_beside : (block k : ℕ) → k < 64 → low after block k ≡ low words block k
    low_beside block k less = get_or-set_other words (sequence_word at + i) (low_word block k) n 0 (λ e. omega arith)

    -- a group's own words leave all other groups
    pub own_word : (other : Home) → other.group < 64 → other ≢ at → Untouched other words after
    own_word other few' apart = record {
      version = get_or-set_other words (sequence_word at + i) (sequence_word other) n 0 (λ e. apart (one_home other at (omega arith) (omega arith)));
      group = record {
        data_words = λ j two. get_or-set_other words (sequence_word at + i) (data_word other j) n 0 (λ e. apart (one_home other at (omega arith) (omega arith)));
        rows = λ k less _. (high_beside other.block k less, low_beside other.block k less);
      };
    }

-- the tag is free or the group's
abbrev pub IsOwn : (group word : ℕ) → Type 0
IsOwn group word = (tag word ≡ 0) ⊎ (tag word ≡ group + 1)

own_not_other : (g h word : ℕ) → IsOwn g word → h ≢ g → tag word ≢ h + 1
own_not_other g h word own other is = ⊎_elim (λ (e : tag word ≡ 0). omega arith) (λ (e : tag word ≡ g + 1). other (omega arith)) own

-- a place's words stand below its block's groups
module _ (words : List ℕ) (block k n : ℕ) (less : k < 64) where
  abbrev with_low : List ℕ
  with_low = set words (low_word block k) n

  abbrev with_high : List ℕ
  with_high = set words (high_word block k) n

  pub sequence_above_low : (at : Home) → at.group < 64 → sequence with_low at ≡ sequence words at
  sequence_above_low at few = get_or-set_other words (low_word block k) (sequence_word at) n 0 (λ e. omega arith)

  pub sequence_above_high : (at : Home) → at.group < 64 → sequence with_high at ≡ sequence words at
  sequence_above_high at few = get_or-set_other words (high_word block k) (sequence_word at) n 0 (λ e. omega arith)

  -- the first word of a free place leaves all groups
  pub low_of_free : tag (high words block k) ≡ 0 → (at : Home) → at.group < 64 → Untouched at words with_low
  low_of_free free at few = record {
    version = sequence_above_low at few;
    group = record {
      data_words = λ j two. get_or-set_other words (low_word block k) (data_word at j) n 0 (λ e. omega arith);
      rows = λ i inside t.
          let same : high with_low at.block i ≡ high words at.block i = get_or-set_other words (low_word block k) (high_word at.block i) n 0 (λ e. omega arith) in
          let tagged : tag (high words at.block i) ≡ at.group + 1 = ⊎_elim (λ e. e) (λ e. ap tag (sym same) ∙ e) t in (
            same,
            get_or-set_other words (low_word block k) (low_word at.block i) n 0
                (λ e. let b : at.block ≡ block = omega arith in let here : i ≡ k = omega arith in
                let z : tag (high words at.block i) ≡ 0 = (λ l. tag (high words (b l) (here l))) ∙ free in omega arith),
          );
    };
  }

  -- the second word of a place that was free or the group's, and is so afterwards, leaves all other groups
  pub high_of_own : (at : Home) → at.block ≡ block → high_word block k < length words → IsOwn at.group (high words block k) → IsOwn at.group n
      → (other : Home) → other.group < 64 → other ≢ at → Untouched other words with_high
  high_of_own at here room was now other few apart = record {
    version = sequence_above_high other few;
    group = record {
      data_words = λ j two. get_or-set_other words (high_word block k) (data_word other j) n 0 (λ e. omega arith);
      rows = λ i inside t. dite (ℕ_discrete (high_word other.block i) (high_word block k))
          (λ same. let b : other.block ≡ block = omega arith in let p : i ≡ k = omega arith in
          let not_same : other.group ≢ at.group = λ g. apart (one_home other at (b ∙ sym here) g) in
          ⊎_elim
          (λ (e : tag (high words other.block i) ≡ other.group + 1). absurd (own_not_other at.group other.group (high words block k) was not_same ((λ l. tag (high words (sym b l) (sym p l))) ∙ e)))
          (λ (e : tag (high with_high other.block i) ≡ other.group + 1). absurd (own_not_other at.group other.group n now not_same
          (ap tag (sym (get_or-set_same words (high_word block k) n 0 room)) ∙ ((λ l. tag (high with_high (sym b l) (sym p l))) ∙ e)))) t)
          (λ else. (
            get_or-set_other words (high_word block k) (high_word other.block i) n 0 else,
            get_or-set_other words (high_word block k) (low_word other.block i) n 0 (λ e. omega arith),
          ));
    };
  }

pub untouched-trans : (at : Home) (a b c : List ℕ) → Untouched at a b → Untouched at b c → Untouched at a c
untouched-trans at a b c s t = record {
  version = t.version ∙ s.version;
  group = record {
    data_words = λ j two. t.group.data_words j two ∙ s.group.data_words j two;
    rows = λ k less own. ⊎_elim
        (λ (was : tag (high a at.block k) ≡ at.group + 1).
        let x = s.group.rows k less (inl was) in let y = t.group.rows k less (inl (ap tag x.0 ∙ was)) in (y.0 ∙ x.0, y.1 ∙ x.1))
        (λ (now : tag (high c at.block k) ≡ at.group + 1).
        let y = t.group.rows k less (inr now) in let x = s.group.rows k less (inr (ap tag (sym y.0) ∙ now)) in (y.0 ∙ x.0, y.1 ∙ x.1)) own;
  };
}

-- a record stands wherever its words stand in the same way
pub rows_at : (ws ws' : List ℕ) (at at' : Home) → at'.group ≡ at.group → ((k : ℕ) → k < 64 → (high ws' at'.block k ≡ high ws at.block k) × (low ws' at'.block k ≡ low ws at.block k))
    → (rows : List Row) → RowsStand ws at rows → RowsStand ws' at' rows
rows_at ws ws' at at' group same rows s = record {
  place_of = s.place_of;
  inside = s.inside;
  holds = λ i row is. let e = same (s.place_of i) (s.inside i row is) in subst (λ (x : ℕ × List ℕ). SpellsRow x.0 row x.1) (λ j. (sym group j, sym e.1 j ∷ sym e.0 j ∷ [])) (s.holds i row is);
  apart = s.apart;
  tagged = λ k less is. let e = same k less in s.tagged k less (ap tag (sym e.0) ∙ (is ∙ ap (λ (g : ℕ). g + 1) group));
}

-- a store of another word leaves the tags
pub tags_beside : (words : List ℕ) (blocks i n : ℕ) → ((block k : ℕ) → k < 64 → high_word block k ≢ i) → AreTagged words blocks → AreTagged (set words i n) blocks
tags_beside words blocks i n beside t = λ block k in_table less. subst (λ (x : ℕ). tag x ≤ 64) (sym (get_or-set_other words i (high_word block k) n 0 (beside block k less))) (t block k in_table less)

-- a place becomes free, or a group's
pub tags_here : (words : List ℕ) (blocks block k n : ℕ) → high_word block k < length words → tag n ≤ 64 → AreTagged words blocks → AreTagged (set words (high_word block k) n) blocks
tags_here words blocks block k n room small t = λ b i in_table less. dite (ℕ_discrete (high_word b i) (high_word block k))
    (λ e. subst (λ (x : ℕ). tag x ≤ 64) (sym (ap (λ (j : ℕ). get_or (set words (high_word block k) n) j 0) e ∙ get_or-set_same words (high_word block k) n 0 room)) small)
    (λ other. subst (λ (x : ℕ). tag x ≤ 64) (sym (get_or-set_other words (high_word block k) (high_word b i) n 0 other)) (t b i in_table less))

pub tag_of_own : (group word : ℕ) → group < 64 → IsOwn group word → tag word ≤ 64
tag_of_own group word few own = ⊎_elim (λ (e : tag word ≡ 0). omega arith) (λ (e : tag word ≡ group + 1). omega arith) own

pub holds_at : (nodes : ℕ) (ws ws' : List ℕ) (at at' : Home) (content : GroupRecord) → at'.group ≡ at.group → ((j : ℕ) → j < data_words → datum ws' at' j ≡ datum ws at j)
    → ((k : ℕ) → k < 64 → (high ws' at'.block k ≡ high ws at.block k) × (low ws' at'.block k ≡ low ws at.block k)) → Holds nodes ws at content → Holds nodes ws' at' content
holds_at nodes ws ws' at at' content group data_words places h = record {
  data_words = λ j two. data_words j two ∙ h.data_words j two;
  packs = h.packs;
  rows = rows_at ws ws' at at' group places (rows_placed content) h.rows;
  sound = h.sound;
  in_cluster = h.in_cluster;
}
