use Rattle.std.proofs.Common.{◌≡◌, ◌+◌, ◌<◌, suc, length, ◌∙◌, ap, subst, sym, arith}
use Rattle.bucket_arena.specs.Chains.{cell_at, numbers}
use Rattle.bucket_arena.proofs.Appending.{long}
use Rattle.bucket_arena.proofs.Closing.{IsMoved, here_written, next_written, moved_on}
use Rattle.bucket_arena.proofs.Links.{item_there}
use Rattle.bucket_arena.proofs.chain.move_up.Goals as goal

pub read-next-requires : goal.read-next-requires
read-next-requires g c =
    here_written c.args.row.now c.args.chain c.moved.row c.args.place c.moved.counter c.moved.number c.moved.invariant (omega (arith, c.moved-test))

pub read-item-requires : goal.read-item-requires
read-item-requires g c =
    next_written c.args.row.now c.args.chain c.moved.row c.args.place c.moved.counter c.moved.number c.moved.invariant (omega (arith, c.moved-test)) c.read-next.result c.read-next.ensures

pub moved-preserved : goal.moved-preserved
moved-preserved g c =
    let k = c.moved.counter in let e : suc k ≡ k + 1 = omega arith in
    subst (λ hole. IsMoved c.args.row.now c.write.new.self c.args.chain c.args.place hole c.read-next.result.next) e
    (moved_on c.args.row.now c.args.chain c.moved.row c.args.place k c.moved.number c.moved.invariant (omega (arith, c.moved-test)) c.read-next.result c.read-next.ensures c.read-item.result c.read-item.ensures c.write.new.self c.write.ensures)

pub returns-clause-item : goal.returns-clause-item
returns-clause-item g c =
    let cell = cell_at c.args.row.now in let ns = numbers cell c.args.chain in
    let l : c.args.place < length ns = omega (arith, long c.args.row.now c.args.chain, c.requires.place) in
    item_there cell ns c.requires.whole.written c.args.place l c.read-taken.result (ap cell (sym c.number_at-number.ensures.number) ∙ c.read-taken.ensures)
