use Rattle.group_cell.proofs.Keeps.{asks}
use Rattle.group_cell.proofs.table.own_look.ask.Goals as goal

pub load-requires : goal.load-requires
load-requires c = (c.requires.own, c.requires.inside, asks _ _ _ _ c.requires.writes _)
