-- A plan of each owner so far.
use Rattle.std.proofs.Common.{[], ℕ, map}
use Rattle.replica_shard.specs.Shard.{shard_after}
use Rattle.replica_shard.specs.Store.{shard_state_of}
use Rattle.cluster_open.specs.Opened.{AreOpened}
use Rattle.cluster_open.proofs.opening.plans.Given as goal

abbrev pub invariant-owners : goal.invariant-owners
invariant-owners l = record {
  all : AreOpened l.owner (λ (owner : ℕ). shard_after l.shape owner l.fn.flows []) (map shard_state_of l.plans.items);
}
