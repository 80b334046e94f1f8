use Rattle.std.proofs.Common.{◌≡◌}
use Rattle.flow_types.specs.Map.{without}
use Rattle.group_search.specs.Records.{entries}
use Rattle.rib_owner.proofs.Buckets.{flows_from}
use Rattle.rib_owner.proofs.block.OwnedBlock.gather_others.Given as goal

-- the entries of the buckets so far
abbrev pub invariant-buckets : goal.invariant-buckets
invariant-buckets l = l.room.items ≡ entries (without l.fn.key (flows_from l.self.choices l.group l.self.arena.buckets 0 l.number))
