use Rattle.std.proofs.Common.{ap, arith}
use Rattle.bucket_arena.specs.Arena.{item_count}
use Rattle.bucket_arena.proofs.Standing.{items_counted}
use Rattle.bucket_arena.proofs.arena.Arena.room.Goals as goal

pub returns-clause-room : goal.returns-clause-room
returns-clause-room g c =
    let all = items_counted c.self.inside.row c.self.inside.chains c.self.inside.free c.self.inside.made c.self.invariant in
    let count = ap item_count c.self.view_is in let spare = ap (λ v. v.spare) c.self.view_is in let within = c.self.invariant.in_room in
    omega (arith, all, count, spare, within, c.room.ensures)
