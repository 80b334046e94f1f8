use Rattle.std.proofs.Common.{arith, ap, sym, ◌∙◌, subst}
use Rattle.group_cell.specs.declared.view.Address.{Address}
use Rattle.group_cell.specs.Layout.{home_of, sequence_word}
use Rattle.group_cell.specs.Plays.{reader_view}
use Rattle.group_cell.specs.Rule.{HasLoaded, nodes_of, latest}
use Rattle.group_cell.specs.Seating.{the_look, loads_of}
use Rattle.group_cell.proofs.Keeps.{ends_look}
use Rattle.group_cell.proofs.table.looking.end.Goals as goal

pub load-requires : goal.load-requires
load-requires c = let wide = c.requires.inside.wide in let inside = c.requires.inside.inside in let b = inside.block in let g = inside.group in let here = c.sequence_word.ensures in let l = c.requires.looking in
    (c.requires.own, omega arith, ends_look _ _ _ _ l.reads (the_look c.args.seat.now) _ l.last (here ∙ ap (λ (a : Address). sequence_word (home_of a)) (sym c.requires.group)))

pub returns-clause-whole : goal.returns-clause-whole
returns-clause-whole c even again = let s = c.args.seat.now in let r = reader_view s.me.0 in
    subst (λ (a : Address). HasLoaded (nodes_of r.opening) (loads_of s) (home_of a) (latest r.opening r.seen (home_of a))) c.requires.group
    (c.load.ensures.2.1 (the_look s) c.requires.looking.last even again)
