-- Splits and joins of seats keep the rule.
use Rattle.std.proofs.Common.{◌≡◌, ℕ, zero, suc, ◌<◌, ◌≤◌, ◌≢◌, ⊎_elim, Bool, true, false, if◌then◌else◌, ltb, List, [], ◌∷◌, ◌++◌, length, set, refl, sym, ap, ◌∙◌, subst, arith, None}
use mathlib.Core.Option.{some, some-injective, some-ne-none}
use lib.ListN.{get_elem?}
use Rattle.std.proofs.lemmas.Bool.Decides.{nat_tests}
use mathlib.Core.List.{IsPrefix}
use Rattle.flow_types.proofs.Prefixes.{prefix_self, prefix_trans, prefix_shorter, prefix_whole}
use Rattle.atomic_table.specs.Table.{State, Splits, Joins}
use Rattle.atomic_table.proofs.Lists.{at_set, set_else, set_again, at_snoc, at_longer}
use Rattle.group_search.specs.declared.published.Publication.{Publication}
use Rattle.group_cell.specs.declared.view.WriterView.{WriterView}
use Rattle.group_cell.specs.declared.view.ReaderView.{ReaderView}
use Rattle.group_cell.specs.declared.view.View.{View}
use Rattle.group_cell.specs.declared.view.View.TheVariants.{Writer, Reader, Spent}
use Rattle.group_cell.specs.Opening.{Opened}
use Rattle.group_cell.specs.Rule.{AllIn, Stands, Sees, AgreesWith, Kept}
use Rattle.group_cell.specs.Plays.{writer_view, reader_view, IsWriter, IsReader, new_reader, longer, kept_by, given_by, has_heard, has_met, met_by}
use Rattle.group_cell.proofs.Writing.{Moves, stays_put}
use Rattle.group_cell.proofs.Keeps.{at_changed, reader-ne-writer, others_know}

longer_is : (P : List Publication → Type 0) (a b : List Publication) → (length a < length b → P b) → (length b ≤ length a → P a) → P (longer a b)
longer_is P a b f g = go (ltb (length a) (length b)) refl
  where
    go : (t : Bool) → ltb (length a) (length b) ≡ t → P (if t then b else a)
    go true e = f (grind (arith, nat_tests))
    go false e = g (grind (arith, nat_tests))

-- the longer of two beginnings begins with each
longer_left : (p a b : List Publication) → IsPrefix a p → IsPrefix b p → IsPrefix a (longer a b)
longer_left p a b s t = longer_is (λ l. IsPrefix a l) a b (λ lt. prefix_shorter a b p s t (omega arith)) (λ _. prefix_self a)

longer_right : (p a b : List Publication) → IsPrefix a p → IsPrefix b p → IsPrefix b (longer a b)
longer_right p a b s t = longer_is (λ l. IsPrefix b l) a b (λ _. prefix_self b) (λ le. prefix_shorter b a p t s le)

-- the longer of a list and a beginning of it is the list
pub longer_all : (p a : List Publication) → IsPrefix a p → longer a p ≡ p
longer_all p a s = longer_is (λ l. l ≡ p) a p (λ _. refl) (λ le. prefix_whole a p s le)

all_append : (P : List Publication → Type 0) (xs ys : List (List Publication)) → AllIn P xs → AllIn P ys → AllIn P (xs ++ ys)
all_append P [] ys f g k l e = g k l e
all_append P (x ∷ xs) ys f g zero l e = f zero l e
all_append P (x ∷ xs) ys f g (suc k) l e = all_append P xs ys (λ k l e. f (suc k) l e) g k l e

all_cons : (P : List Publication → Type 0) (x : List Publication) (xs : List (List Publication)) → P x → AllIn P xs → AllIn P (x ∷ xs)
all_cons P x xs p f zero l e = subst P (some-injective x l e) p
all_cons P x xs p f (suc k) l e = f k l e

sees_met : (w : WriterView) (a b : ReaderView) → Sees w a → Sees w b → Sees w (has_met b a)
sees_met w a b s t =
    let top : List Publication = longer a.seen b.seen in
    let left : IsPrefix a.seen top = longer_left w.published a.seen b.seen s.seen t.seen in let right : IsPrefix b.seen top = longer_right w.published a.seen b.seen s.seen t.seen in
    let Begins : List Publication → Type 0 = λ l. IsPrefix l top in
    let all = all_append Begins a.heard b.heard (λ k o e. prefix_trans o a.seen top (s.heard k o e) left) (λ k o e. prefix_trans o b.seen top (t.heard k o e) right) in record {
      opening = s.opening;
      seen = longer_is (λ l. IsPrefix l w.published) a.seen b.seen (λ _. t.seen) (λ _. s.seen);
      heard = all_cons Begins a.seen (b.seen ∷ (a.heard ++ b.heard)) left (all_cons Begins b.seen (a.heard ++ b.heard) right all);
      look = tt;
    }

sees_new : (w : WriterView) (opening : Opened) (seen : List Publication) → opening ≡ w.opening → IsPrefix seen w.published → Sees w (new_reader opening seen)
sees_new w opening seen e s = record { opening = e; seen = s; heard = λ k l none. absurd (some-ne-none l (sym none)); look = tt }

forgets : (w : WriterView) (r : ReaderView) → Sees w r → Sees w (record r { last = None })
forgets w r s = record { opening = s.opening; seen = s.seen; heard = s.heard; look = tt }

hears : (w : WriterView) (seen : List Publication) → Stands w → IsPrefix seen w.published → Stands (has_heard seen w)
hears w seen s p = record {
  wide = s.wide;
  few = s.few;
  rest = λ at inside rests. let r = s.rest at inside rests in record { version = r.version; holds = r.holds };
  places = s.places;
  in_writing = s.in_writing;
  heard = all_cons (λ l. IsPrefix l w.published) seen w.heard p s.heard;
}

hears_moves : (w : WriterView) (seen : List Publication) → Moves w (has_heard seen w)
hears_moves w seen = let m = stays_put w in record { opening = m.opening; longer = m.longer; groups = m.groups }

module _ {S : Type 0} (key : Opened) where
  abbrev Rule : State S View → Type 0
  Rule = Kept key

  abbrev with_views : State S View → List View → State S View
  with_views s vs = record { words = s.words; homes = s.homes; views = vs }

  module _ (s : State S View) (k : Rule s) (id : ℕ) where
    -- a view other than the writer's changes
    abbrev changes : (r : ReaderView) (v' : View) → get_elem? s.views id ≡ some (Reader r) → AgreesWith k.view k.writer id v' → Rule (with_views s (set s.views id v'))
    changes r v' at knows =
        let apart : k.writer ≢ id = λ e. reader-ne-writer r k.view (sym at ∙ (ap (get_elem? s.views) (sym e) ∙ k.seat)) in record {
          writer = k.writer;
          view = k.view;
          seat = set_else s.views id k.writer v' apart ∙ k.seat;
          words = k.words;
          opened = k.opened;
          stands = k.stands;
          each_seat = λ j v e. ⊎_elim (λ (h : (j ≡ id) × (v' ≡ v)). subst (λ (x : ℕ × View). AgreesWith k.view k.writer x.0 x.1) (λ l. (sym h.0 l, h.1 l)) knows)
              (λ (h : (j ≢ id) × (get_elem? s.views j ≡ some v)). k.each_seat j v h.1)
              (at_set s.views id j v' v e);
        }

    -- the writer's view changes, and no word
    abbrev rewrites : (w w' : WriterView) → get_elem? s.views id ≡ some (Writer w) → Moves w w' → Stands w' → w'.words ≡ w.words → Rule (with_views s (set s.views id (Writer w')))
    rewrites w w' at moves stands same =
        let known : (id ≡ k.writer) × (w ≡ k.view) = k.each_seat id (Writer w) at in record {
          writer = id;
          view = w';
          seat = at_changed s.views id (Writer w) (Writer w') at;
          words = k.words ∙ (ap (λ u. u.words) (sym known.1) ∙ sym same);
          opened = moves.opening ∙ (ap (λ u. u.opening) known.1 ∙ k.opened);
          stands = stands;
          each_seat = λ j v e. ⊎_elim (λ (h : (j ≡ id) × (Writer w' ≡ v)). subst (AgreesWith w' id j) h.1 (h.0, refl))
              (λ (h : (j ≢ id) × (get_elem? s.views j ≡ some v)). others_know w w' id j h.0 moves v (subst (λ (x : ℕ × WriterView). AgreesWith x.1 x.0 j v) (λ l. (sym known.0 l, sym known.1 l)) (k.each_seat j v h.1)))
              (at_set s.views id j (Writer w') v e);
        }

  -- a new reader comes
  arrives : (s : State S View) (k : Rule s) (r : ReaderView) → Sees k.view r → Rule (with_views s (s.views ++ Reader r ∷ []))
  arrives s k r sees = record {
    writer = k.writer;
    view = k.view;
    seat = at_longer s.views (Reader r ∷ []) k.writer (Writer k.view) k.seat;
    words = k.words;
    opened = k.opened;
    stands = k.stands;
    each_seat = λ j v e. ⊎_elim (k.each_seat j v) (λ (h : Reader r ≡ v). subst (AgreesWith k.view k.writer j) h sees) (at_snoc s.views (Reader r) v j e);
  }

  pub splits_reader : (id : ℕ) (v : View) → IsReader v → Splits Rule id v (kept_by v) (given_by v)
  splits_reader id v is = subst (λ (u : View). Splits Rule id u (kept_by u) (given_by u)) (sym is) split
    where
      split : let r = reader_view v in Splits Rule id (Reader r) (kept_by (Reader r)) (given_by (Reader r))
      split s k at = let r = reader_view v in let sees : Sees k.view r = k.each_seat id (Reader r) at in
          let k' = changes s k id r (Reader (record r { last = None })) at (forgets k.view r sees) in
          arrives (with_views s (set s.views id (Reader (record r { last = None })))) k' (new_reader r.opening r.seen) (sees_new k.view r.opening r.seen sees.opening sees.seen)

  pub splits_writer : (id : ℕ) (v : View) → IsWriter v → Splits Rule id v (kept_by v) (given_by v)
  splits_writer id v is = subst (λ (u : View). Splits Rule id u (kept_by u) (given_by u)) (sym is) split
    where
      split : let w = writer_view v in Splits Rule id (Writer w) (kept_by (Writer w)) (given_by (Writer w))
      split s k at = let w = writer_view v in let known : (id ≡ k.writer) × (w ≡ k.view) = k.each_seat id (Writer w) at in
          subst (λ (vs : List View). Rule (with_views s (vs ++ Reader (new_reader w.opening w.published) ∷ []))) (sym (set_again s.views id (Writer w) at))
          (arrives s k (new_reader w.opening w.published) (sees_new k.view w.opening w.published (ap (λ u. u.opening) known.1) (subst (λ (u : WriterView). IsPrefix w.published u.published) known.1 (prefix_self w.published))))

  pub joins_to_writer : (id : ℕ) (v : View) (other : ℕ) (u : View) → IsWriter v → IsReader u → Joins Rule id v other u (met_by v u) Spent
  joins_to_writer id v other u is is' = subst (λ (x : View × View). Joins Rule id x.0 other x.1 (met_by x.0 x.1) Spent) (λ i. (sym is i, sym is' i)) join
    where
      join : let w = writer_view v in let r = reader_view u in Joins Rule id (Writer w) other (Reader r) (met_by (Writer w) (Reader r)) Spent
      join s k at apart there = let w = writer_view v in let r = reader_view u in
          let was : get_elem? s.views other ≡ some (Reader r) = sym (set_else s.views id other (Writer (has_heard r.seen w)) apart) ∙ there in
          let sees : Sees k.view r = k.each_seat other (Reader r) was in let known : (id ≡ k.writer) × (w ≡ k.view) = k.each_seat id (Writer w) at in
          let begins : IsPrefix r.seen w.published = subst (λ (x : WriterView). IsPrefix r.seen x.published) (sym known.1) sees.seen in
          let k' = rewrites s k id w (has_heard r.seen w) at (hears_moves w r.seen) (hears w r.seen (subst Stands (sym known.1) k.stands) begins) refl in
          changes (with_views s (set s.views id (Writer (has_heard r.seen w)))) k' other r Spent there tt

  pub joins_to_reader : (id : ℕ) (v : View) (other : ℕ) (u : View) → IsReader v → IsReader u → Joins Rule id v other u (met_by v u) Spent
  joins_to_reader id v other u is is' = subst (λ (x : View × View). Joins Rule id x.0 other x.1 (met_by x.0 x.1) Spent) (λ i. (sym is i, sym is' i)) join
    where
      join : let a = reader_view v in let b = reader_view u in Joins Rule id (Reader a) other (Reader b) (met_by (Reader a) (Reader b)) Spent
      join s k at apart there = let a = reader_view v in let b = reader_view u in
          let was : get_elem? s.views other ≡ some (Reader b) = sym (set_else s.views id other (Reader (has_met b a)) apart) ∙ there in
          let k' = changes s k id a (Reader (has_met b a)) at (sees_met k.view a b (k.each_seat id (Reader a) at) (k.each_seat other (Reader b) was)) in
          changes (with_views s (set s.views id (Reader (has_met b a)))) k' other b Spent there tt
