use Rattle.std.proofs.Common.{arith, ◌≡◌, ℕ, ◌+◌, ◌^◌, ◌<◌, get_or, set, sym, ap, ◌∙◌, subst, None}
use Rattle.atomic_table.specs.Table.{Me}
use Rattle.group_search.specs.Home.{Home}
use Rattle.group_cell.specs.declared.view.View.{View}
use Rattle.group_cell.specs.declared.view.View.TheVariants.{Writer}
use Rattle.group_cell.specs.declared.view.WriterView.{WriterView}
use Rattle.group_cell.specs.Opening.{Opened}
use Rattle.group_cell.specs.Layout.{home_of, home_of_word, sequence, sequence_word}
use Rattle.group_cell.specs.Rule.{IsIn, Stands}
use Rattle.group_cell.specs.Plays.{writer_view, IsWriter, begun}
use Rattle.group_cell.proofs.Groups.{home_back}
use Rattle.group_cell.proofs.Writing.{own}
use Rattle.group_cell.proofs.Reading.{halves}
use Rattle.group_cell.proofs.Keeps.{asks, begins}
use Rattle.group_cell.proofs.table.publishing.begin.Goals as goal

-- the sequence word is small
small : (w : WriterView) (key : Opened) (at : Home) → Stands w → w.opening ≡ key → IsIn key at → sequence w.words at < 2 ^ 33
small w key at s e inside = (halves w s at (subst (λ (o : Opened). IsIn o at) (sym e) inside)).1

-- after the odd number is stored
now_odd : (w : WriterView) (key : Opened) (at : Home) (odd : ℕ) → Stands w → w.opening ≡ key → IsIn key at → sequence (set w.words (sequence_word at) odd) at ≡ odd
now_odd w key at odd s e inside = own w at (subst (λ (o : Opened). IsIn o at) (sym e) inside) s odd

pub load-version-requires : goal.load-version-requires
load-version-requires c = let wide = c.requires.inside.wide in let inside = c.requires.inside.inside in let b = inside.block in let g = inside.group in let here = c.sequence_word.ensures in
    (c.requires.own, omega arith, asks _ _ _ _ c.requires.rests.writes _)

pub overflow_add-version : goal.overflow_add-version
overflow_add-version c = let t = c.load-version.ensures.2 in let w = writer_view c.args.seat.now.me.0 in
    let few = small w _ (home_of c.args.at) t.2 c.requires.opening c.requires.inside.inside in
    let is : c.load-version.result ≡ sequence w.words (home_of c.args.at) = t.1 ∙ ap (λ (i : ℕ). get_or w.words i 0) c.sequence_word.ensures in omega arith

pub store-requires : goal.store-requires
store-requires c = let wide = c.requires.inside.wide in let inside = c.requires.inside.inside in let b = inside.block in let g = inside.group in
    let a = c.load-version.ensures in let t = a.2 in let same = sym t.0 in let here = c.sequence_word-2.ensures in let w = writer_view c.args.seat.now.me.0 in
    let is : c.load-version.result ≡ sequence w.words (home_of c.args.at) = t.1 ∙ ap (λ (i : ℕ). get_or w.words i 0) c.sequence_word.ensures in (
      a.0 ∙ c.requires.own,
      omega arith,
      begins _ _ _ _ (subst (λ (m : Me ℕ View). IsWriter m.0) same c.requires.rests.writes) (home_of c.args.at) inside _ _
          (subst (λ (m : Me ℕ View). (writer_view m.0).writing ≡ None) same c.requires.rests.rests) here
          (subst (λ (m : Me ℕ View). c.load-version.result + 1 ≡ sequence (writer_view m.0).words (home_of c.args.at) + 1) same (ap (λ (n : ℕ). n + 1) is)),
    )

pub returns-clause-found : goal.returns-clause-found
returns-clause-found c = let t = c.load-version.ensures.2 in let w = writer_view c.args.seat.now.me.0 in
    let few = small w _ (home_of c.args.at) t.2 c.requires.opening c.requires.inside.inside in
    let is : c.load-version.result ≡ sequence w.words (home_of c.args.at) = t.1 ∙ ap (λ (i : ℕ). get_or w.words i 0) c.sequence_word.ensures in (is, omega arith)

pub returns-clause-begun : goal.returns-clause-begun
returns-clause-begun c = let a = c.load-version.ensures in let b = c.store.ensures in
    let back : home_of_word c.sequence_word-2.result ≡ home_of c.args.at = ap home_of_word c.sequence_word-2.ensures ∙ home_back (home_of c.args.at) c.requires.inside.inside.group in record {
      same = (b.0 ∙ a.0, b.1 ∙ a.1);
      me = b.2 ∙ (λ i. let m = a.2.0 i in (Writer (begun (back i) (c.load-version.result + 1) (writer_view m.0)), m.1));
    }

pub returns-clause-wide : goal.returns-clause-wide
returns-clause-wide c = let a = c.load-version.ensures in let b = c.store.ensures in let w = writer_view c.args.seat.now.me.0 in let at = home_of c.args.at in
    let back : home_of_word c.sequence_word-2.result ≡ at = ap home_of_word c.sequence_word-2.ensures ∙ home_back at c.requires.inside.inside.group in
    let me = b.2 ∙ (λ i. let m = a.2.0 i in (Writer (begun (back i) (c.load-version.result + 1) (writer_view m.0)), m.1)) in
    ap (λ (m : Me ℕ View). sequence (writer_view m.0).words at) me ∙ now_odd w _ at (c.load-version.result + 1) a.2.2 c.requires.opening c.requires.inside.inside
