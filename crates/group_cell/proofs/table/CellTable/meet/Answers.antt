use Rattle.std.proofs.Common.{arith, ◌≡◌, ℕ, zero, [], refl, sym, ap, ◌∙◌, subst}
use mathlib.Core.List.{IsPrefix}
use Rattle.atomic_table.specs.Table.{Me}
use Rattle.group_cell.specs.declared.view.View.{View}
use Rattle.group_cell.specs.declared.view.View.TheVariants.{Writer, Reader}
use Rattle.group_cell.specs.declared.view.WriterView.{WriterView}
use Rattle.group_cell.specs.declared.view.ReaderView.{ReaderView}
use Rattle.group_cell.specs.Rule.{Stands}
use Rattle.group_cell.specs.Plays.{writer_view, reader_view, IsWriter, IsReader, new_reader, kept_by, given_by, met_by, has_heard}
use Rattle.group_cell.proofs.Keeps.{asks}
use Rattle.group_cell.proofs.Meeting.{splits_reader, splits_writer, joins_to_writer, joins_to_reader, longer_all}
use Rattle.group_cell.proofs.table.CellTable.meet.Goals as goal

abbrev M : Type 0
M = Me ℕ View

-- what the seats know, step by step: the reader's R and the writer's W at first
module _ (R W : View) (reads : IsReader R) (writes : IsWriter W) where
  abbrev r : ReaderView
  r = reader_view R

  abbrev w : WriterView
  w = writer_view W

  copied : (m : M) → m ≡ (given_by R, []) → m.0 ≡ Reader (new_reader r.opening r.seen)
  copied m e = ap (λ (m : M). m.0) e ∙ ap given_by reads

  heard : (m : M) (n : View) → m ≡ (given_by R, []) → n ≡ met_by W m.0 → n ≡ Writer (has_heard r.seen w)
  heard m n e f = f ∙ (λ i. met_by (writes i) (copied m e i))

pub split_seat-has_seen-requires : goal.split_seat-has_seen-requires
split_seat-has_seen-requires c = let wide = c.args.self.now.wide in let some = c.args.self.now.has_a_block in (c.requires.reader.one_table, omega arith, splits_reader _ _ _ c.args.reader.now.reads.reads)

pub join_seat-requires : goal.join_seat-requires
join_seat-requires c = let wide = c.args.self.now.wide in let some = c.args.self.now.has_a_block in let a = c.split_seat-has_seen.ensures in (
  c.requires.writer.one_table,
  a.3 ∙ c.requires.reader.one_table,
  ap (λ (m : M). m.1) a.4,
  omega arith,
  joins_to_writer _ _ _ _ _ c.args.writer.now.writes.writes (subst IsReader (sym (copied _ c.args.writer.now.seat.me.0 c.args.reader.now.reads.reads c.args.writer.now.writes.writes _ a.4)) refl),
)

pub load-requires : goal.load-requires
load-requires c = let wide = c.args.self.now.wide in let some = c.args.self.now.has_a_block in let a = c.split_seat-has_seen.ensures in let b = c.join_seat.ensures in (
  b.0 ∙ c.requires.writer.one_table,
  omega arith,
  asks _ _ _ _ (subst IsWriter (sym (heard _ _ c.args.reader.now.reads.reads c.args.writer.now.writes.writes _ _ a.4 (ap (λ (m : M). m.0) b.2))) refl) 0,
)

pub split_seat-is_published-requires : goal.split_seat-is_published-requires
split_seat-is_published-requires c = let wide = c.args.self.now.wide in let some = c.args.self.now.has_a_block in let a = c.split_seat-has_seen.ensures in let b = c.join_seat.ensures in let l = c.load.ensures in (
  l.0 ∙ (b.0 ∙ c.requires.writer.one_table),
  omega arith,
  splits_writer _ _ _ (subst (λ (m : M). IsWriter m.0) (sym l.2.0) (subst IsWriter (sym (heard _ _ c.args.reader.now.reads.reads c.args.writer.now.writes.writes _ _ a.4 (ap (λ (m : M). m.0) b.2))) refl)),
)

pub join_seat-requires-2 : goal.join_seat-requires-2
join_seat-requires-2 c = let wide = c.args.self.now.wide in let some = c.args.self.now.has_a_block in let R = c.args.reader.now.seat.me.0 in let W = c.args.writer.now.seat.me.0 in
    let reads = c.args.reader.now.reads.reads in let writes = c.args.writer.now.writes.writes in
    let a = c.split_seat-has_seen.ensures in let b = c.join_seat.ensures in let l = c.load.ensures in let d = c.split_seat-is_published.ensures in (
      a.0 ∙ c.requires.reader.one_table,
      d.3 ∙ (l.0 ∙ (b.0 ∙ c.requires.writer.one_table)),
      ap (λ (m : M). m.1) d.4,
      omega arith,
      joins_to_reader _ _ _ _ _ (subst IsReader (sym (ap (λ (m : M). m.0) a.2 ∙ ap kept_by reads)) refl)
          (subst IsReader (sym (ap (λ (m : M). m.0) d.4 ∙ (ap (λ (m : M). given_by m.0) l.2.0 ∙ ap given_by (heard R W reads writes _ _ a.4 (ap (λ (m : M). m.0) b.2))))) refl),
    )

-- what the writer learned at its load
learned : (R W : View) (reads : IsReader R) (writes : IsWriter W) (m : M) (n : View) → m ≡ (given_by R, []) → n ≡ met_by W m.0 → Stands (writer_view n) → IsPrefix (reader_view R).seen (writer_view W).published
learned R W reads writes m n e f stands = (subst (λ (v : View). Stands (writer_view v)) (heard R W reads writes m n e f) stands).heard zero (reader_view R).seen refl

pub returns-clause-before : goal.returns-clause-before
returns-clause-before c = learned c.args.reader.now.seat.me.0 c.args.writer.now.seat.me.0 c.args.reader.now.reads.reads c.args.writer.now.writes.writes _ _ c.split_seat-has_seen.ensures.4 (ap (λ (m : M). m.0) c.join_seat.ensures.2) c.load.ensures.2.2

pub returns-clause-all : goal.returns-clause-all
returns-clause-all c = let R = c.args.reader.now.seat.me.0 in let W = c.args.writer.now.seat.me.0 in
    let reads = c.args.reader.now.reads.reads in let writes = c.args.writer.now.writes.writes in
    let a = c.split_seat-has_seen.ensures in let b = c.join_seat.ensures in let l = c.load.ensures in let d = c.split_seat-is_published.ensures in let e = c.join_seat-2.ensures in
    let x = ap (λ (m : M). m.0) a.2 ∙ ap kept_by reads in
    let y = ap (λ (m : M). m.0) d.4 ∙ (ap (λ (m : M). given_by m.0) l.2.0 ∙ ap given_by (heard R W reads writes _ _ a.4 (ap (λ (m : M). m.0) b.2))) in
    ap (λ (m : M). (reader_view m.0).seen) e.2 ∙ ((λ i. (reader_view (met_by (x i) (y i))).seen) ∙ longer_all (writer_view W).published (reader_view R).seen (learned R W reads writes _ _ a.4 (ap (λ (m : M). m.0) b.2) l.2.2))
