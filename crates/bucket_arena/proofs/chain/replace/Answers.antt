use Rattle.std.proofs.Common.{◌≡◌, ◌<◌, subst, sym, arith, length}
use Rattle.bucket_arena.specs.Chains.{cell_at, numbers, occurrences}
use Rattle.bucket_arena.proofs.Appending.{at_place, long}
use Rattle.bucket_arena.proofs.Written.{within, wrote_else, still_written}
use Rattle.bucket_arena.proofs.Writing.{same_chain, items_now}
use Rattle.bucket_arena.proofs.chain.replace.Goals as goal

pub returns-clause-numbers : goal.returns-clause-numbers
returns-clause-numbers g c = same_chain c.args.row.now c.write.new.self c.number_at-number.result c.args.item c.read-next.result c.read-next.ensures c.write.ensures c.args.chain

pub returns-clause-items : goal.returns-clause-items
returns-clause-items g c =
    let l : c.args.place < length (numbers (cell_at c.args.row.now) c.args.chain) = omega (arith, long c.args.row.now c.args.chain, c.requires.place) in
    items_now c.args.row.now c.write.new.self c.number_at-number.result c.args.item c.read-next.result c.read-next.ensures c.write.ensures c.args.chain c.requires.whole c.args.place l c.number_at-number.ensures.number

pub returns-clause-others : goal.returns-clause-others
returns-clause-others g c = λ n none.
    let number = c.number_at-number.result in let ns = numbers (cell_at c.args.row.now) c.args.chain in
    let some : 0 < occurrences number ns = subst (λ k. 0 < occurrences k ns) (sym c.number_at-number.ensures.number) (at_place c.args.row.now c.args.chain c.args.place c.requires.place) in
    wrote_else c.args.row.now c.write.new.self number (record { item = c.args.item; next = c.read-next.result.next }) c.write.ensures n
    (λ e. let none' : occurrences number ns ≡ 0 = subst (λ k. occurrences k ns ≡ 0) e none in omega (arith, none', some))

pub returns-clause-written : goal.returns-clause-written
returns-clause-written g c =
    still_written c.args.row.now c.write.new.self c.number_at-number.result (record { item = c.args.item; next = c.read-next.result.next }) c.write.ensures
    (within c.args.row.now c.number_at-number.result c.read-next.result c.read-next.ensures)
