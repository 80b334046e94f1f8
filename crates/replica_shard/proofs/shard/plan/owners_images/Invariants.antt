-- The images so far are those of the owner's blocks below the next one.
use Rattle.std.proofs.Common.{◌≡◌, ◌+◌, ◌*◌, ◌-◌, length}
use Rattle.replica_shard.proofs.Dealt.{AreFirst}
use Rattle.replica_shard.proofs.shard.plan.owners_images.Given as goal

abbrev pub invariant-dealt : goal.invariant-dealt
invariant-dealt l = record {
  block : l.block ≡ l.owner + l.nodes * length l.own.items;
  first : AreFirst l.nodes l.owner l.images l.own.items;
}

abbrev pub decreases-dealt : goal.decreases-dealt
decreases-dealt l = l.fn.shape.blocks - l.block
