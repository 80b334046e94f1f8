use Rattle.bucket_arena.proofs.Closing.{IsMoved}
use Rattle.bucket_arena.proofs.chain.move_up.Given as goal

abbrev pub invariant-moved : goal.invariant-moved
invariant-moved g l = IsMoved l.fn.row l.row l.fn.chain l.fn.place l.counter l.number
