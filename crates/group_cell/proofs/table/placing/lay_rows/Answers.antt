use Rattle.std.proofs.Common.{arith, List, take, refl, sym, ◌∙◌, subst}
use Rattle.std.proofs.lemmas.List.{take_more}
use Rattle.group_search.specs.declared.rows.Row.{Row}
use Rattle.group_cell.specs.Layout.{home_of}
use Rattle.group_cell.specs.Rule.{RowsStand}
use Rattle.group_cell.specs.Seating.{words_of_seat}
use Rattle.group_cell.proofs.Rewriting.{rewrites-self, rewrites-trans, writing_on}
use Rattle.group_cell.proofs.table.placing.lay_rows.Goals as goal

pub rows-init : goal.rows-init
rows-init c = record {
  owners = c.requires.owners;
  rewrites = rewrites-self c.args.at.block c.args.seat.now c.requires.writing.writes;
  writing = c.requires.writing;
  stand = c.requires.none;
  free = omega arith;
  mine = omega arith;
  others = λ o _ _. refl;
}

pub rows-preserved : goal.rows-preserved
rows-preserved c = let v = c.rows.invariant in let a = c.put.ensures in let less = c.rows-test.true in let free = v.free in let once = a.free in let mine = v.mine in let more = a.mine in record {
  owners = a.owners;
  rewrites = rewrites-trans c.args.at.block c.args.seat.now c.rows.seat c.put.new.seat v.rewrites a.rewrites;
  writing = writing_on c.args.at.block c.rows.seat c.put.new.seat (home_of c.args.at) a.rewrites v.writing;
  stand = subst (λ (rows : List Row). RowsStand (words_of_seat c.put.new.seat) (home_of c.args.at) rows) (sym (take_more c.args.rows.now c.rows.row-index _ less)) (a.rows (take c.rows.row-index c.args.rows.now) v.stand);
  free = omega arith;
  mine = omega arith;
  others = λ o not_free not_mine. a.others o not_free not_mine ∙ v.others o not_free not_mine;
}
