use Rattle.std.proofs.Common.{arith, length-set, ◌∙◌}
use Rattle.group_cell.specs.Layout.{home_of}
use Rattle.group_cell.proofs.Answering.{one_more_load}
use Rattle.group_cell.proofs.Looking.{goes_on-trans}
use Rattle.group_cell.proofs.table.looking.gather.Goals as goal

pub loads-preserved : goal.loads-preserved
loads-preserved c = let i = c.loads.invariant in let a = c.load.ensures in let width = i.width in let less = c.loads-test.true in record {
  width = length-set c.loads.words c.loads.number c.load.result ∙ i.width;
  looking = a.looking;
  goes_on = goes_on-trans _ _ _ i.goes_on a.goes_on;
  loads = one_more_load _ _ _ (home_of c.args.at) c.loads.number c.data_word.result c.load.result c.loads.words (omega arith) c.data_word.ensures i.loads a.loads;
}
