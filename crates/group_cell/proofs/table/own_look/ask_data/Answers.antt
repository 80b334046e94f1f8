use Rattle.std.proofs.Common.{arith, ℕ, length-set, ap, ◌∙◌, get_or}
use Rattle.atomic_table.specs.Table.{Me}
use Rattle.group_cell.specs.declared.view.View.{View}
use Rattle.group_cell.specs.Layout.{home_of}
use Rattle.group_cell.specs.Plays.{writer_view}
use Rattle.group_cell.specs.Seating.{words_of_seat}
use Rattle.group_cell.proofs.Answering.{one_more_own}
use Rattle.group_cell.proofs.table.own_look.ask_data.Goals as goal

pub loads-preserved : goal.loads-preserved
loads-preserved c = let i = c.loads.invariant in let a = c.ask.ensures in let width = i.width in let less = c.loads-test.true in let ws = words_of_seat c.args.seat.now in
    let found = a.found ∙ (ap (λ (m : Me ℕ View). get_or (writer_view m.0).words c.data_word.result 0) i.kept ∙ ap (λ (k : ℕ). get_or ws k 0) c.data_word.ensures) in record {
      width = length-set c.loads.words c.loads.number c.ask.result ∙ i.width;
      same = (a.same.0 ∙ i.same.0, a.same.1 ∙ i.same.1);
      kept = a.kept ∙ i.kept;
      loads = one_more_own ws (home_of c.args.at) c.loads.number c.ask.result c.loads.words (omega arith) found i.loads;
    }
