use Rattle.std.proofs.Common.{◌≡◌, ◌≤◌, vec_len}
use Rattle.bucket_arena.specs.Arena.{item_count}
use Rattle.bucket_arena.proofs.tests.does_as_256_vectors_do.Given as goal

abbrev pub invariant-lists : goal.invariant-lists
invariant-lists g l = vec_len l.lists ≡ l.counter

abbrev pub invariant-steps : goal.invariant-steps
invariant-steps g l = (item_count l.arena ≤ l.counter) × (vec_len l.lists ≡ 256)

abbrev pub invariant-compared : goal.invariant-compared
invariant-compared g l = vec_len l.lists ≡ 256
