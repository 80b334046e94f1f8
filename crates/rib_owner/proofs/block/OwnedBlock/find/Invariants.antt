use Rattle.std.proofs.Common.{◌≡◌, drop}
use Rattle.flow_types.specs.Map.{flow_at}
use Rattle.rib_owner.proofs.Buckets.{in_bucket}
use Rattle.rib_owner.proofs.block.OwnedBlock.find.Given as goal

abbrev pub invariant-items : goal.invariant-items
invariant-items l = record {
  left : drop l.place (in_bucket l.self.arena.buckets l.bucket) ≡ l.item-iterator;
  none : flow_at l.fn.key l.item-iterator ≡ flow_at l.fn.key (in_bucket l.self.arena.buckets l.bucket);
}
