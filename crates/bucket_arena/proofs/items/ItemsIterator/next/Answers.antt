use Rattle.std.proofs.Common.{◌<◌, arith}
use Rattle.bucket_arena.proofs.Heads.{first_written, rest_written}
use Rattle.bucket_arena.proofs.items.ItemsIterator.next.Goals as goal

pub read-cell-requires : goal.read-cell-requires
read-cell-requires g c =
    let some : 0 < c.self.inside.left = omega arith in
    first_written c.self.inside.row.now c.self.inside.left c.self.inside.next some c.self.invariant

pub invariant_of-self : goal.invariant_of-self
invariant_of-self g c =
    let some : 0 < c.self.inside.left = omega arith in
    rest_written c.self.inside.row.now c.self.inside.left c.self.inside.next c.read-cell.result some c.read-cell.ensures c.self.invariant
