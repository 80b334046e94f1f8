-- The writer's steps, over its view alone.
use Rattle.std.proofs.Common.{◌≡◌, ℕ, ◌+◌, ◌*◌, ◌^◌, ◌<◌, ◌≤◌, ◌≢◌, inl, inr, ⊎_elim, List, [], ◌∷◌, ◌++◌, length, get_or, set, refl, sym, ap, ◌∙◌, subst, arith, length-set, length-append, get_or-set_other, get_or-set_same, Option, Some, None, IfSome}
use mathlib.Core.List.{IsPrefix}
use Rattle.flow_types.proofs.Prefixes.{prefix_self, prefix_trans, prefix_more}
use Rattle.group_search.specs.declared.published.Publication.{Publication}
use Rattle.group_search.specs.declared.record.GroupRecord.{GroupRecord}
use Rattle.group_search.specs.Home.{Home}
use Rattle.group_search.specs.Published.{count}
use Rattle.group_cell.specs.declared.view.Address.{Address}
use Rattle.group_cell.specs.declared.view.Load.{Load}
use Rattle.group_cell.specs.declared.view.Sight.{Sight}
use Rattle.group_cell.specs.declared.view.WriterView.{WriterView}
use Rattle.group_cell.specs.declared.view.ReaderView.{ReaderView}
use Rattle.group_cell.specs.Layout.{high_word, low_word, data_word, address, home_of, sequence_word, sequence, tag, high}
use Rattle.group_cell.specs.Rule.{AreTagged, IsEven, IsIn, IsAtRest, IsFresh, Rests, Holds, nodes_of, latest, Stands, Looks, Sees}
use Rattle.group_cell.specs.Plays.{begun, stored, ended, publication}
use Rattle.group_cell.proofs.Versions.{same_home_or, count_here, count_else, latest_here, latest_else}
use Rattle.group_cell.specs.Changes.{SameGroup, Untouched}
use Rattle.group_cell.proofs.Groups.{holds_on, own_word, tags_beside, untouched-self}

pub if_some : {A : Type 0} {P Q : A → Type 0} (o : Option A) → ((x : A) → P x → Q x) → IfSome o P → IfSome o Q
if_some None f h = tt
if_some (Some x) f h = f x h

-- what a step of the writer keeps of a group for a reader that looks at it
pub record MovesOn (words words' : List ℕ) (at : Home) : Type 0 where
  pub up : sequence words at ≤ sequence words' at
  pub still : IsEven (sequence words at) → sequence words' at ≡ sequence words at → SameGroup at words words'

-- what a step of the writer keeps for each reader
pub record Moves (w w' : WriterView) : Type 0 where
  pub opening : w'.opening ≡ w.opening
  pub longer : IsPrefix w.published w'.published
  pub groups : (at : Home) → IsIn w.opening at → MovesOn w.words w'.words at

pub moves_on : (at : Home) (words words' : List ℕ) → Untouched at words words' → MovesOn words words' at
moves_on at words words' u = record { up = let e = u.version in omega arith; still = λ _ _. u.group }

pub stays_put : (w : WriterView) → Moves w w
stays_put w = record { opening = refl; longer = prefix_self w.published; groups = λ at _. moves_on at w.words w.words (untouched-self at w.words) }

abbrev get_words : List ℕ → ℕ → ℕ
get_words ws i = get_or ws i 0

-- what was loaded stays fresh while the group stays the same
fresh_on : (at : Home) (words words' : List ℕ) (x : Load) → SameGroup at words words' → IsFresh words at x → IsFresh words' at x
fresh_on at words words' x same f = record {
  data_words = λ j two is. f.data_words j two is ∙ (ap (get_words words) is ∙ (sym (same.data_words j two) ∙ ap (get_words words') (sym is)));
  tags = λ k less is t. ⊎_elim
      (λ (mine : tag x.found ≡ at.group + 1).
      let e = f.tags k less is (inl mine) in let here : x.found ≡ high words at.block k = e ∙ ap (get_words words) is in
      here ∙ (sym (same.rows k less (inl (ap tag (sym here) ∙ mine))).0 ∙ ap (get_words words') (sym is)))
      (λ (now : tag (get_words words' x.word) ≡ at.group + 1).
      let now' : tag (high words' at.block k) ≡ at.group + 1 = ap (λ (i : ℕ). tag (get_words words' i)) (sym is) ∙ now in
      let kept = (same.rows k less (inr now')).0 in
      f.tags k less is (inr (ap (λ (i : ℕ). tag (get_words words i)) is ∙ (ap tag (sym kept) ∙ now'))) ∙ (ap (get_words words) is ∙ (sym kept ∙ ap (get_words words') (sym is)))) t;
  rows = λ k less is now. let kept = same.rows k less (inr now) in
      f.rows k less is (ap tag (sym kept.0) ∙ now) ∙ (ap (get_words words) is ∙ (sym kept.1 ∙ ap (get_words words') (sym is)));
}

looks_on : (w w' : WriterView) (r : ReaderView) (l : Sight) → Moves w w' → Looks w r l → Looks w' r l
looks_on w w' r l m k = let at : Home = home_of l.at in let g = m.groups at k.inside in let late = k.late in let up = g.up in record {
  inside = subst (λ o. IsIn o at) (sym m.opening) k.inside;
  counted = k.counted;
  late = omega arith;
  fresh = λ even here x has.
      let before : sequence w.words at ≡ l.first = omega arith in
      fresh_on at w.words w'.words x (g.still (subst IsEven (sym before) even) (here ∙ sym before)) (k.fresh even before x has);
  whole = k.whole;
}

pub sees_on : (w w' : WriterView) (r : ReaderView) → Moves w w' → Sees w r → Sees w' r
sees_on w w' r m s = record {
  opening = s.opening ∙ sym m.opening;
  seen = prefix_trans r.seen w.published w'.published s.seen m.longer;
  heard = s.heard;
  look = if_some r.last (λ l. looks_on w w' r l m) s.look;
}

-- a group whose words and records stay rests as before
rests_on : (w w' : WriterView) (at : Home) → w'.opening ≡ w.opening → Untouched at w.words w'.words → count w'.published at ≡ count w.published at → latest w.opening w'.published at ≡ latest w.opening w.published at
    → Rests w at → Rests w' at
rests_on w w' at same u counted kept r = record {
  version = u.version ∙ (r.version ∙ ap (λ (n : ℕ). 2 * n) (sym counted));
  holds = subst (λ o. Holds (nodes_of o) w'.words at (latest o w'.published at)) (sym same)
      (subst (Holds (nodes_of w.opening) w'.words at) (sym kept) (holds_on at w.words w'.words u.group (nodes_of w.opening) (latest w.opening w.published at) r.holds));
}

module _ (w : WriterView) (at : Home) (inside : IsIn w.opening at) (s : Stands w) where
  -- where nothing is written, each group rests
  resting : w.writing ≡ None → (h : Home) → IsAtRest w h
  resting none h = subst (λ (o : Option Address). IfSome o (λ a. home_of a ≢ h)) (sym none) tt

  others_rest : w.writing ≡ Some (address at) → (h : Home) → h ≢ at → IsAtRest w h
  others_rest some h other = subst (λ (o : Option Address). IfSome o (λ a. home_of a ≢ h)) (sym some) (λ e. other (sym e))

  pub odd_now : w.writing ≡ Some (address at) → sequence w.words at ≡ 2 * count w.published at + 1
  odd_now some = (subst (λ (o : Option Address). IfSome o (λ a. IsIn w.opening (home_of a) × (sequence w.words (home_of a) ≡ 2 * count w.published (home_of a) + 1))) some s.in_writing).1

  in_words : sequence_word at + 2 < length w.words
  in_words = let wide = s.wide in let b = inside.block in let g = inside.group in omega arith

  pub own : (n : ℕ) → sequence (set w.words (sequence_word at) n) at ≡ n
  own n = let l = in_words in get_or-set_same w.words (sequence_word at) n 0 (omega arith)

  others_kept : (n : ℕ) (h : Home) → IsIn w.opening h → h ≢ at → Untouched h w.words (set w.words (sequence_word at) n)
  others_kept n h in_table other = subst (λ (i : ℕ). Untouched h w.words (set w.words i n)) (let e : sequence_word at + 0 ≡ sequence_word at = omega arith in e)
      (own_word at inside.group w.words 0 n (omega arith) h in_table.group other)

  tags_kept : (n : ℕ) → AreTagged (set w.words (sequence_word at) n) (length w.opening.images)
  tags_kept n = tags_beside w.words (length w.opening.images) (sequence_word at) n (λ block k less e. let g = inside.group in omega arith) s.places

  -- the sequence word rises by 1
  rises : (n : ℕ) → n ≡ sequence w.words at + 1 → (h : Home) → IsIn w.opening h → MovesOn w.words (set w.words (sequence_word at) n) h
  rises n is h in_table = ⊎_elim
      (λ (e : h ≡ at). subst (MovesOn w.words (set w.words (sequence_word at) n)) (sym e)
      (let now = own n in record { up = omega arith; still = λ _ same. absurd (omega arith) }))
      (λ other. moves_on h w.words (set w.words (sequence_word at) n) (others_kept n h in_table other)) (same_home_or h at)

  pub begins_moves : (odd : ℕ) → odd ≡ sequence w.words at + 1 → Moves w (begun at odd w)
  begins_moves odd is = record { opening = refl; longer = prefix_self w.published; groups = rises odd is }

  pub begins_stands : (odd : ℕ) → odd ≡ sequence w.words at + 1 → w.writing ≡ None → Stands (begun at odd w)
  begins_stands odd is none = record {
    wide = length-set w.words (sequence_word at) odd ∙ s.wide;
    few = s.few;
    rest = λ h in_table other. rests_on w (begun at odd w) h refl (others_kept odd h in_table (λ e. other (sym e))) refl refl (s.rest h in_table (resting none h));
    places = tags_kept odd;
    in_writing = (inside, (let now = own odd in let rest = (s.rest at inside (resting none at)).version in omega arith));
    heard = s.heard;
  }

  -- a store that leaves all other groups, and the sequence word of the group in writing
  module _ (some : w.writing ≡ Some (address at)) (i n : ℕ) (others : (h : Home) → IsIn w.opening h → h ≢ at → Untouched h w.words (set w.words i n))
      (version : sequence (set w.words i n) at ≡ sequence w.words at) where
    pub stores_moves : Moves w (stored i n w)
    stores_moves = record {
      opening = refl;
      longer = prefix_self w.published;
      groups = λ h in_table. ⊎_elim
          (λ (e : h ≡ at). subst (MovesOn w.words (set w.words i n)) (sym e) (let odd = odd_now some in record { up = omega arith; still = λ even _. absurd (omega arith) }))
          (λ other. moves_on h w.words (set w.words i n) (others h in_table other)) (same_home_or h at);
    }

    pub stores_stands : AreTagged (set w.words i n) (length w.opening.images) → Stands (stored i n w)
    stores_stands tags = record {
      wide = length-set w.words i n ∙ s.wide;
      few = s.few;
      rest = λ h in_table rests. rests_on w (stored i n w) h refl (others h in_table (not_at h rests)) refl refl (s.rest h in_table rests);
      places = tags;
      in_writing = subst (λ (o : Option Address). IfSome o (λ a. IsIn w.opening (home_of a) × (sequence (set w.words i n) (home_of a) ≡ 2 * count w.published (home_of a) + 1))) (sym some)
          (inside, version ∙ odd_now some);
      heard = s.heard;
    }
      where
        not_at : (h : Home) → IsAtRest w h → h ≢ at
        not_at h rests e = subst (λ (o : Option Address). IfSome o (λ a. home_of a ≢ h)) some rests (sym e)

  pub ends_moves : (content : GroupRecord) (even : ℕ) → even ≡ sequence w.words at + 1 → Moves w (ended at content even w)
  ends_moves content even is = record { opening = refl; longer = prefix_more w.published (publication at content ∷ []); groups = rises even is }

  pub ends_stands : (content : GroupRecord) (even : ℕ) → even ≡ sequence w.words at + 1 → w.writing ≡ Some (address at) → length w.published + 1 < 2 ^ 32
      → Holds (nodes_of w.opening) w.words at content → Stands (ended at content even w)
  ends_stands content even is some room holds = let p : Publication = publication at content in record {
    wide = length-set w.words (sequence_word at) even ∙ s.wide;
    few = let l = length-append w.published (p ∷ []) in omega arith;
    rest = λ h in_table _. ⊎_elim
        (λ (e : h ≡ at). subst (Rests (ended at content even w)) (sym e) record {
          version = let now = own even in let odd = odd_now some in let more = count_here w.published p at refl in omega arith;
          holds = subst (Holds (nodes_of w.opening) (set w.words (sequence_word at) even) at) (sym (latest_here w.published p at w.opening.images refl))
              (holds_on at w.words (set w.words (sequence_word at) even) own_kept (nodes_of w.opening) content holds);
        })
        (λ other. rests_on w (ended at content even w) h refl (others_kept even h in_table other) (count_else w.published p h (λ e. other (sym e))) (latest_else w.published p h w.opening.images (λ e. other (sym e)))
        (s.rest h in_table (others_rest some h other))) (same_home_or h at);
    places = tags_kept even;
    in_writing = tt;
    heard = λ k l there. prefix_trans l w.published (w.published ++ p ∷ []) (s.heard k l there) (prefix_more w.published (p ∷ []));
  }
    where
      own_kept : SameGroup at w.words (set w.words (sequence_word at) even)
      own_kept = record {
        data_words = λ j two. get_or-set_other w.words (sequence_word at) (data_word at j) even 0 (λ e. omega arith);
        rows = λ k less _. (
          get_or-set_other w.words (sequence_word at) (high_word at.block k) even 0 (λ e. let g = inside.group in omega arith),
          get_or-set_other w.words (sequence_word at) (low_word at.block k) even 0 (λ e. let g = inside.group in omega arith),
        );
      }
