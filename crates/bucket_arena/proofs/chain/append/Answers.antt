use Rattle.std.proofs.Common.{◌≡◌, ◌<◌, ◌∷◌, [], ◌++◌, sym, ap, arith}
use Rattle.bucket_arena.specs.declared.chain.Cell.{Cell}
use Rattle.bucket_arena.specs.Chains.{cell_at, numbers_from}
use Rattle.bucket_arena.proofs.Written.{wrote_there, still_written}
use Rattle.bucket_arena.proofs.Appending.{last_stands, first_marked, whole_grown, linked, items_now, whole_now, still, others}
use Rattle.bucket_arena.proofs.chain.append.Goals as goal

pub returns-then-chain-eq0-clause-whole : goal.returns-then-chain-eq0-clause-whole
returns-then-chain-eq0-clause-whole g c =
    let cells = c.args.row.now in let chain = c.args.chain in let number = c.args.number in
    let none : chain.len ≡ 0 = omega arith in
    let new : Cell g.row.T.Denot = record { item = c.args.item; next = number } in
    whole_grown cells chain c.write.new.self (record { first = number; last = number; len = 1; run = 0 }) number c.args.item c.requires.whole
    (ap (λ k. numbers_from (cell_at cells) k chain.first ++ number ∷ []) (sym none)) (first_marked cells chain number none) c.requires.apart
    (still_written cells c.write.new.self number new c.write.ensures c.requires.room) (new, wrote_there cells c.write.new.self number new c.write.ensures c.requires.room)

pub returns-then-chain-eq0-clause-written : goal.returns-then-chain-eq0-clause-written
returns-then-chain-eq0-clause-written g c =
    still_written c.args.row.now c.write.new.self c.args.number (record { item = c.args.item; next = c.args.number }) c.write.ensures c.requires.room

pub read-item-requires : goal.read-item-requires
read-item-requires g c =
    let some : 0 < c.args.chain.len = omega arith in
    still_written c.args.row.now c.write.new.self c.args.number (record { item = c.args.item; next = c.args.number }) c.write.ensures c.requires.room
    c.args.chain.last (c.requires.whole.written c.args.chain.last (last_stands c.args.row.now c.args.chain c.requires.whole some))

pub returns-clause-numbers : goal.returns-clause-numbers
returns-clause-numbers g c =
    let some : 0 < c.args.chain.len = omega arith in
    linked c.args.row.now c.write.new.self c.write-2.new.self c.args.chain c.args.number c.args.item c.read-item.result c.requires.whole c.requires.apart c.requires.room some c.run_with.result c.run_with.ensures.same c.write.ensures c.read-item.ensures c.write-2.ensures

pub returns-clause-items : goal.returns-clause-items
returns-clause-items g c =
    let some : 0 < c.args.chain.len = omega arith in
    items_now c.args.row.now c.write.new.self c.write-2.new.self c.args.chain c.args.number c.args.item c.read-item.result c.requires.whole c.requires.apart c.requires.room some c.run_with.result c.run_with.ensures.same c.write.ensures c.read-item.ensures c.write-2.ensures

pub returns-clause-whole : goal.returns-clause-whole
returns-clause-whole g c =
    let some : 0 < c.args.chain.len = omega arith in
    whole_now c.args.row.now c.write.new.self c.write-2.new.self c.args.chain c.args.number c.args.item c.read-item.result c.requires.whole c.requires.apart c.requires.room some c.run_with.result c.run_with.ensures.same c.write.ensures c.read-item.ensures c.write-2.ensures

pub returns-clause-others : goal.returns-clause-others
returns-clause-others g c =
    let some : 0 < c.args.chain.len = omega arith in
    others c.args.row.now c.write.new.self c.write-2.new.self c.args.chain c.args.number c.args.item c.read-item.result c.requires.whole c.requires.apart c.requires.room some c.run_with.result c.run_with.ensures.same c.write.ensures c.read-item.ensures c.write-2.ensures

pub returns-clause-written : goal.returns-clause-written
returns-clause-written g c =
    let some : 0 < c.args.chain.len = omega arith in
    still c.args.row.now c.write.new.self c.write-2.new.self c.args.chain c.args.number c.args.item c.read-item.result c.requires.whole c.requires.apart c.requires.room some c.run_with.result c.run_with.ensures.same c.write.ensures c.read-item.ensures c.write-2.ensures
