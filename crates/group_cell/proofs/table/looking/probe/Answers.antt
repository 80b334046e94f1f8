use Rattle.std.proofs.Common.{arith, ◌≡◌, ◌+◌}
use Rattle.group_cell.specs.declared.view.Load.{Load}
use Rattle.group_cell.specs.Layout.{home_of, tag}
use Rattle.group_cell.specs.Rule.{HasLoad}
use Rattle.group_cell.specs.Seating.{loads_of}
use Rattle.group_cell.proofs.Finding.{found_on, found_here}
use Rattle.group_cell.proofs.Looking.{has_at}
use Rattle.group_cell.proofs.table.looking.probe.Goals as goal

pub returns-then-tag-from-clause-found : goal.returns-then-tag-from-clause-found
returns-then-tag-from-clause-found c = let a = c.load-second.ensures in
    found_on (loads_of c.args.seat.now) (loads_of c.load-second.new.seat) (home_of c.args.at) c.args.place c.args.key a.goes_on.loads _ c.requires.found
    (c.load-second.result, has_at _ _ _ _ _ a.loads c.high_word.ensures, λ tagged. absurd (let other = c.if-tag-from.true in let t = c.tag.ensures in let g = c.from.ensures in omega arith))

pub returns-in-Some-clause-found : goal.returns-in-Some-clause-found
returns-in-Some-clause-found c = let a = c.load-second.ensures in let b = c.load-first.ensures in
    let tagged : tag c.load-second.result ≡ c.args.at.group + 1 = (let is = c.if-tag-from.false in let t = c.tag.ensures in let g = c.from.ensures in omega arith) in
    found_here (loads_of c.args.seat.now) (loads_of c.load-first.new.seat) (home_of c.args.at) c.args.place c.args.key (λ (x : Load) (has : HasLoad (loads_of c.args.seat.now) x). b.goes_on.loads x (a.goes_on.loads x has))
    c.in-Some.node c.load-second.result c.load-first.result (b.goes_on.loads _ (has_at _ _ _ _ _ a.loads c.high_word.ensures)) tagged (has_at _ _ _ _ _ b.loads c.low_word.ensures) c.in-Some.ensures

pub returns-in-None-clause-found : goal.returns-in-None-clause-found
returns-in-None-clause-found c = let a = c.load-second.ensures in let b = c.load-first.ensures in
    found_on (loads_of c.args.seat.now) (loads_of c.load-first.new.seat) (home_of c.args.at) c.args.place c.args.key (λ (x : Load) (has : HasLoad (loads_of c.args.seat.now) x). b.goes_on.loads x (a.goes_on.loads x has)) _ c.requires.found
    (c.load-second.result, b.goes_on.loads _ (has_at _ _ _ _ _ a.loads c.high_word.ensures), λ _. (c.load-first.result, has_at _ _ _ _ _ b.loads c.low_word.ensures, c.in-None.ensures))
