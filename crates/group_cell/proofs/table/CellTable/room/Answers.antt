use Rattle.std.proofs.Common.{arith, ◌≡◌, ℕ, ◌+◌, List, [], length, take, get_or, sym, ap, ◌∙◌, subst}
use Rattle.std.proofs.lemmas.List.{take_all}
use Rattle.group_cell.specs.Opening.{Opened}
use Rattle.group_cell.specs.Rule.{IsIn}
use Rattle.group_cell.specs.Plays.{writer_view}
use Rattle.group_cell.specs.Seating.{places_of}
use Rattle.group_cell.specs.Seats.{opened_with, the_group}
use Rattle.group_cell.proofs.Publishing.{in_owners, item_is}
use Rattle.group_cell.proofs.Room.{room_now}
use Rattle.group_cell.proofs.table.CellTable.room.Goals as goal

pub returns : goal.returns
returns c = let v = c.places.invariant in let w = writer_view c.args.writer.now.seat.me.0 in let owners = c.args.writer.now.owners.items in let at = the_group c.args.block c.args.group in let t = c.args.writer.now.tallied in
    let mine : List ℕ = c.index-owners.result.now in
    let is = item_is owners c.args.block c.from.result mine c.index-owners.ensures c.from.ensures (in_owners owners w (opened_with c.args.self.now) at t c.requires.writer.one_opening c.requires.inside) in
    let in_w : IsIn w.opening at = subst (λ (o : Opened). IsIn o at) (sym c.requires.writer.one_opening) c.requires.inside in
    let long : length mine ≡ 64 = ap length is ∙ (t.placed c.args.block in_w.block).all in let end = c.places-test.false in
    let all : take c.places.owner-index mine ≡ get_or owners c.args.block [] = take_all c.places.owner-index mine (omega arith) ∙ is in
    let zero_is : places_of 0 (take c.places.owner-index mine) ≡ places_of 0 (get_or owners c.args.block []) = ap (places_of 0) all in
    let mine_is : places_of (c.args.group + 1) (take c.places.owner-index mine) ≡ places_of (c.args.group + 1) (get_or owners c.args.block []) = ap (places_of (c.args.group + 1)) all in
    let room = room_now w owners (opened_with c.args.self.now) at t c.requires.writer.one_opening c.requires.inside in omega arith
