use Rattle.std.proofs.Common.{arith}
use Rattle.bucket_arena.proofs.chain.next_free.Goals as goal

pub read-requires : goal.read-requires
read-requires g c = c.requires.whole (omega arith)
