use Rattle.std.proofs.Common.{◌≡◌, ◌-◌, ap, ◌∙◌, arith, get_or}
use Rattle.bucket_arena.specs.Chains.{cell_at, numbers}
use Rattle.bucket_arena.proofs.Closing.{numbers_cut, items_cut, whole_cut}
use Rattle.bucket_arena.proofs.chain.without_last.Goals as goal

pub returns-clause-numbers : goal.returns-clause-numbers
returns-clause-numbers g c = numbers_cut c.args.row.now c.args.chain c.requires.whole c.requires.some c.number_at-last.result c.min.result

pub returns-clause-items : goal.returns-clause-items
returns-clause-items g c = items_cut c.args.row.now c.args.chain c.requires.whole c.requires.some c.number_at-last.result c.min.result

pub returns-clause-whole : goal.returns-clause-whole
returns-clause-whole g c =
    let e : c.saturating_sub-before.result ≡ c.args.chain.len - 1 - 1 = omega (arith, c.saturating_sub-before.ensures) in
    whole_cut c.args.row.now c.args.chain c.requires.whole c.requires.some c.number_at-last.result c.min.result
    (c.number_at-last.ensures.number ∙ ap (λ k. get_or (numbers (cell_at c.args.row.now) c.args.chain) k 0) e) (omega (arith, c.min.ensures)) (omega (arith, c.min.ensures, c.saturating_sub-before.ensures))
