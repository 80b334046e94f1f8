use Rattle.std.proofs.Common.{◌≡◌, get_or}
use Rattle.bucket_arena.specs.Chains.{cell_at, numbers}
use Rattle.bucket_arena.proofs.chain.number_at.Given as goal

abbrev pub invariant-walked : goal.invariant-walked
invariant-walked g l = l.number ≡ get_or (numbers (cell_at l.row) l.fn.chain) l.counter 0
