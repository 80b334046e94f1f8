use Rattle.std.proofs.Common.{◌≡◌, ◌+◌, ◌<◌, suc, sym, ◌∙◌, ap, subst, arith, get_or}
use Rattle.bucket_arena.specs.Row.{IsWritten}
use Rattle.bucket_arena.specs.Chains.{cell_at, next_of, numbers}
use Rattle.bucket_arena.proofs.Appending.{at_place, near, near_written, near_within}
use Rattle.bucket_arena.proofs.Links.{next_number}
use Rattle.bucket_arena.proofs.chain.number_at.Goals as goal

pub overflow_add-result : goal.overflow_add-result
overflow_add-result g c = let l = near_within c.args.row.now c.args.chain c.requires.whole c.args.place (omega arith) c.requires.place in omega (arith, l, c.requires.few)

pub returns-then-place-chain-clause-written : goal.returns-then-place-chain-clause-written
returns-then-place-chain-clause-written g c = near_written c.args.row.now c.args.chain c.requires.whole c.args.place (omega arith) c.requires.place

pub overflow_add-number : goal.overflow_add-number
overflow_add-number g c = let l = near_within c.args.row.now c.args.chain c.requires.whole c.args.chain.run (omega arith) (omega (arith, c.requires.place)) in omega (arith, l, c.requires.few)

pub walked-init : goal.walked-init
walked-init g c = sym (near c.args.row.now c.args.chain c.requires.whole c.args.chain.run (omega arith) (omega (arith, c.requires.place)))

pub read-number-requires : goal.read-number-requires
read-number-requires g c =
    let l : c.walked.counter < c.args.chain.len = omega (arith, c.requires.place) in
    subst (IsWritten c.args.row.now) (sym c.walked.invariant) (c.requires.whole.written _ (at_place c.args.row.now c.args.chain c.walked.counter l))

pub walked-preserved : goal.walked-preserved
walked-preserved g c =
    let cell = cell_at c.args.row.now in let k = c.walked.counter in
    let l : suc k < c.args.chain.len = omega (arith, c.requires.place) in
    let e : suc k ≡ k + 1 = omega arith in
    sym (ap next_of c.read-number.ensures) ∙ ap (λ n. next_of (cell n)) c.walked.invariant ∙ sym (next_number cell c.args.chain.len c.args.chain.first k l) ∙ ap (λ j. get_or (numbers cell c.args.chain) j 0) e

pub returns-clause-written : goal.returns-clause-written
returns-clause-written g c =
    let l : c.walked.counter < c.args.chain.len = omega (arith, c.requires.place) in
    subst (IsWritten c.args.row.now) (sym c.walked.invariant) (c.requires.whole.written _ (at_place c.args.row.now c.args.chain c.walked.counter l))
