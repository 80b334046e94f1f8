use Rattle.std.proofs.Common.{◌≡◌}
use Rattle.bucket_arena.specs.Arena.{item_count}
use Rattle.bucket_arena.proofs.tests.keeps_its_items_where_a_growth_is_refused.Given as goal

abbrev pub invariant-pushed : goal.invariant-pushed
invariant-pushed g l = item_count l.arena ≡ l.item
