use Rattle.std.proofs.Common.{arith, ◌≡◌, sym, ap, ◌∙◌, subst}
use Rattle.group_cell.specs.declared.view.View.TheVariants.{Writer}
use Rattle.group_cell.specs.Layout.{home_of, home_of_word}
use Rattle.group_cell.specs.Rule.{Holds, nodes_of}
use Rattle.group_cell.specs.Plays.{writer_view, ended}
use Rattle.group_cell.proofs.Groups.{home_back}
use Rattle.group_cell.proofs.Keeps.{ends_writing}
use Rattle.group_cell.proofs.table.publishing.finish.Goals as goal

pub store-requires : goal.store-requires
store-requires g c = let wide = c.requires.inside.wide in let inside = c.requires.inside.inside in let b = inside.block in let few = inside.group in let here = c.sequence_word.ensures in
    let w = writer_view c.args.seat.now.me.0 in let C = g.C.Naming.content in let room = c.requires.room in (
      c.requires.own,
      omega arith,
      ends_writing _ _ _ _ c.requires.writing.writes (home_of c.args.at) inside C _ _ c.requires.writing.writing here c.requires.even (omega arith)
          (λ _. subst (Holds (nodes_of w.opening) w.words (home_of c.args.at)) c.requires.named c.requires.holds),
    )

pub returns : goal.returns
returns g c = let a = c.store.ensures in
    let back : home_of_word c.sequence_word.result ≡ home_of c.args.at = ap home_of_word c.sequence_word.ensures ∙ home_back (home_of c.args.at) c.requires.inside.inside.group in record {
      same = (a.0, a.1);
      me = a.2 ∙ (λ i. (Writer (ended (back i) (sym c.requires.named i) c.args.even (writer_view c.args.seat.now.me.0)), c.args.seat.now.me.1));
    }
