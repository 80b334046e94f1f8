use Rattle.std.proofs.Common.{arith, List, take, sym, ◌∙◌, subst}
use Rattle.std.proofs.lemmas.List.{take_more}
use Rattle.group_search.specs.declared.rows.Row.{Row}
use Rattle.group_cell.specs.Laying.{in_front}
use Rattle.group_cell.specs.Rule.{RowsStand}
use Rattle.group_cell.proofs.Laid.{leaves-self, leaves-trans}
use Rattle.group_cell.proofs.table.laying.lay_rows.Goals as goal

pub rows-init : goal.rows-init
rows-init c = record {
  owners_of = c.requires.owners;
  free = omega arith;
  mine = c.requires.bare.counted;
  others = leaves-self (in_front c.args.group) c.args.words.now c.args.owners.now;
  version = c.requires.bare.version;
  stand = c.requires.bare.rows;
}

pub rows-preserved : goal.rows-preserved
rows-preserved c = let v = c.rows.invariant in let a = c.lay_row.ensures in let less = c.rows-test.true in
    let free = v.free in let once = a.free in let mine = v.mine in let more = a.mine in record {
      owners_of = a.owners;
      free = omega arith;
      mine = omega arith;
      others = leaves-trans (in_front c.args.group) c.args.words.now c.rows.words c.lay_row.new.words c.args.owners.now c.rows.owners c.lay_row.new.owners v.others a.others;
      version = a.version ∙ v.version;
      stand = subst (λ (rows : List Row). RowsStand c.lay_row.new.words (in_front c.args.group) rows) (sym (take_more c.args.rows.now c.rows.row-index _ less)) (a.rows (take c.rows.row-index c.args.rows.now) v.stand);
    }
