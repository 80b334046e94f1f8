use Rattle.std.proofs.Common.{◌≡◌, ◌+◌, ◌≤◌, ◌++◌, length, set}
use Rattle.bucket_arena.specs.Arena.{bucket_of, item_count}
use Rattle.bucket_arena.proofs.arena.Arena.extend.Given as goal

-- what stands with what is left makes the whole
abbrev pub invariant-items : goal.invariant-items
invariant-items g l = (set l.self.buckets l.bucket (bucket_of l.self l.bucket ++ l.item-iterator) ≡ set l.fn.self.buckets l.bucket (bucket_of l.fn.self l.bucket ++ l.fn.items))
    × (length l.self.buckets ≡ 256) × (length l.item-iterator ≤ l.self.spare) × (item_count l.self + l.self.spare ≡ item_count l.fn.self + l.fn.self.spare)
