use Rattle.std.proofs.Common.{◌≡◌, ◌++◌}
use Rattle.flow_types.specs.Map.{without}
use Rattle.group_search.specs.Records.{entries}
use Rattle.rib_owner.proofs.gathering.add_others.Given as goal

abbrev pub invariant-items : goal.invariant-items
invariant-items l = l.room.items ++ entries (without l.fn.key l.item-iterator) ≡ l.fn.room.items ++ entries (without l.fn.key l.fn.items)
