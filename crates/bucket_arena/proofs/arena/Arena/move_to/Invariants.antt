use Rattle.std.proofs.Common.{◌≡◌, ◌+◌}
use Rattle.bucket_arena.specs.Arena.{item_count}
use Rattle.bucket_arena.proofs.Laying.{laid}
use Rattle.bucket_arena.proofs.arena.Arena.move_to.Given as goal

abbrev pub invariant-buckets : goal.invariant-buckets
invariant-buckets g l = (l.moved.buckets ≡ laid l.fn.self.buckets l.number) × (item_count l.moved + l.moved.spare ≡ l.fn.room)
