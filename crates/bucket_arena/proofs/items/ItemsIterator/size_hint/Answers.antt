use Rattle.std.proofs.Common.{ap, length, arith}
use Rattle.bucket_arena.specs.Chains.{cell_at, numbers_from}
use Rattle.bucket_arena.proofs.Links.{length-items, length-numbers}
use Rattle.bucket_arena.proofs.items.ItemsIterator.size_hint.Goals as goal

pub returns-clause-lower : goal.returns-clause-lower
returns-clause-lower g c = λ always.
    let cell = cell_at c.self.inside.row.now in let seen = ap length c.self.view_is in
    omega (arith, seen, length-items cell (numbers_from cell c.self.inside.left c.self.inside.next) c.self.invariant, length-numbers cell c.self.inside.left c.self.inside.next)

pub returns-clause-upper : goal.returns-clause-upper
returns-clause-upper g c =
    let cell = cell_at c.self.inside.row.now in let seen = ap length c.self.view_is in
    (tt, omega (arith, seen, length-items cell (numbers_from cell c.self.inside.left c.self.inside.next) c.self.invariant, length-numbers cell c.self.inside.left c.self.inside.next))
