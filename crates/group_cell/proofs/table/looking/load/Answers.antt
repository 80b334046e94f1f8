use Rattle.group_cell.specs.Seating.{the_look}
use Rattle.group_cell.proofs.Keeps.{loads_word}
use Rattle.group_cell.proofs.Looking.{look_goes_on}
use Rattle.group_cell.proofs.table.looking.load.Goals as goal

pub load-requires : goal.load-requires
load-requires c = let l = c.requires.looking in (c.requires.own, c.requires.inside, loads_word _ _ _ _ l.reads (the_look c.args.seat.now) _ l.last l.goes_on)

pub returns-clause-goes_on : goal.returns-clause-goes_on
returns-clause-goes_on c = let e = c.load.ensures in look_goes_on _ _ _ (e.0, e.1) e.2 c.requires.looking
