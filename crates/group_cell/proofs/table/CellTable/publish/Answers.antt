use Rattle.std.proofs.Common.{arith, ◌≡◌, ◌≢◌, ℕ, ◌+◌, List, [], get_or, set, sym, ap, ◌∙◌, subst}
use Rattle.flow_types.specs.Size.{value_bits}
use Rattle.group_search.specs.declared.rows.Row.{Row}
use Rattle.group_cell.specs.Opening.{Opened}
use Rattle.group_cell.specs.Rule.{Holds, IsIn, RowsStand, nodes_of}
use Rattle.group_cell.specs.Plays.{writer_view}
use Rattle.group_cell.specs.Seating.{Tallies, places_of, words_of_seat}
use Rattle.group_cell.specs.Seats.{opened_with, the_group}
use Rattle.group_cell.proofs.Publishing.{holds_now, in_owners, item_is, opening_now, seat_after, tallies_after}
use Rattle.group_cell.proofs.Room.{room_now}
use Rattle.group_cell.proofs.table.CellTable.publish.Goals as goal

pub lay_rows-requires-clause-room : goal.lay_rows-requires-clause-room
lay_rows-requires-clause-room c = let w = writer_view c.args.writer.now.seat.me.0 in let owners = c.args.writer.now.owners.items in let at = the_group c.args.block c.args.group in let t = c.args.writer.now.tallied in
    let is = item_is owners c.args.block c.from.result c.index.result.now c.index.ensures c.from.ensures (in_owners owners w (opened_with c.args.self.now) at t c.requires.writer.one_opening c.requires.inside) in
    let room = room_now w owners (opened_with c.args.self.now) at t c.requires.writer.one_opening c.requires.inside in
    let free = c.vacate.ensures.free in let count = c.rows_kept.ensures.count in let most = c.requires.room in
    let zero_is : places_of 0 c.index.result.now ≡ places_of 0 (get_or owners c.args.block []) = ap (places_of 0) is in
    let mine_is : places_of (c.args.group + 1) c.index.result.now ≡ places_of (c.args.group + 1) (get_or owners c.args.block []) = ap (places_of (c.args.group + 1)) is in omega arith

pub finish-requires-clause-holds : goal.finish-requires-clause-holds
finish-requires-clause-holds c = let at = the_group c.args.block c.args.group in
    let s0 = c.args.writer.now.seat in let s1 = c.begin-version.new.seat in let s2 = c.vacate.new.seat in let s3 = c.lay_rows.new.seat in let s4 = c.write.new.seat in
    let b = c.begin-version.ensures.begun in let v = c.vacate.ensures.rewrites in let l = c.lay_rows.ensures.rewrites in let d = c.write.ensures.writes in
    let one = opening_now s0 s1 s2 s3 s4 at c.requires.inside.group (c.begin-version.result + 1) b v l d ∙ c.requires.writer.one_opening in
    subst (λ (o : Opened). Holds (nodes_of o) (words_of_seat s4) at c.args.content.now) (sym one)
    (holds_now s0 s1 s2 s3 s4 at c.requires.inside.group (c.begin-version.result + 1) b v l d (opened_with c.args.self.now).size.nodes c.args.content.now c.pack.result c.pack.ensures.value
    (c.pack.ensures.kept (value_bits (opened_with c.args.self.now).size.nodes) c.requires.bits) c.rows_kept.ensures.sound c.requires.in_cluster c.write.ensures.data_words
    (subst (λ (rows : List Row). RowsStand (words_of_seat s3) at rows) c.rows_kept.ensures.value c.lay_rows.ensures.rows))

pub invariant_of-writer : goal.invariant_of-writer
invariant_of-writer c = let at = the_group c.args.block c.args.group in let w = writer_view c.args.writer.now.seat.me.0 in let owners = c.args.writer.now.owners.items in let t = c.args.writer.now.tallied in
    let s0 = c.args.writer.now.seat in let s1 = c.begin-version.new.seat in let s2 = c.vacate.new.seat in let s3 = c.lay_rows.new.seat in let s4 = c.write.new.seat in let s5 = c.finish.new.seat in
    let b = c.begin-version.ensures.begun in let v = c.vacate.ensures.rewrites in let l = c.lay_rows.ensures.rewrites in let d = c.write.ensures.writes in let e = c.finish.ensures in
    let odd : ℕ = c.begin-version.result + 1 in let even : ℕ = c.begin-version.result + 2 in let few = c.requires.inside.group in
    let is = item_is owners c.args.block c.from.result c.index.result.now c.index.ensures c.from.ensures (in_owners owners w (opened_with c.args.self.now) at t c.requires.writer.one_opening c.requires.inside) in
    let inside : IsIn w.opening at = subst (λ (o : Opened). IsIn o at) (sym c.requires.writer.one_opening) c.requires.inside in
    let mine = c.lay_rows.ensures.mine in let gone = c.vacate.ensures.mine in let count = c.rows_kept.ensures.count in
    let others = λ (o : ℕ) (not_free : o ≢ 0) (not_mine : o ≢ c.args.group + 1). c.lay_rows.ensures.others o not_free not_mine ∙ (c.vacate.ensures.others o not_free not_mine ∙ ap (places_of o) is) in record {
      writes = seat_after s0 s1 s2 s3 s4 s5 at few odd even c.args.content.now b v l d e c.args.writer.now.writes;
      tallied = subst (λ (k : ℕ). Tallies (set owners k c.lay_rows.new.owners) (writer_view s5.me.0)) (sym c.from-2.ensures)
          (tallies_after s0 s1 s2 s3 s4 s5 at few odd even c.args.content.now b v l d e owners c.lay_rows.new.owners t inside c.lay_rows.ensures.owners (omega arith) others);
    }
