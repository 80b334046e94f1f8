use Rattle.std.proofs.Common.{arith}
use Rattle.group_cell.specs.Layout.{home_of}
use Rattle.group_cell.proofs.Keeps.{starts_look}
use Rattle.group_cell.proofs.table.looking.begin.Goals as goal

pub load-requires : goal.load-requires
load-requires c = let wide = c.requires.inside.wide in let inside = c.requires.inside.inside in let b = inside.block in let g = inside.group in let here = c.sequence_word.ensures in
    (c.requires.own, omega arith, starts_look _ _ _ _ c.requires.reads (home_of c.args.at) _ inside here)
