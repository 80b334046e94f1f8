use Rattle.std.proofs.Common.{◌≡◌, [], ◌∷◌, ◌++◌, ℕ, sym, subst, rules}
use Rattle.group_search.specs.Build.{IsBuild}
use Rattle.replica_shard.specs.Shard.{shard_after}
use Rattle.replica_shard.specs.Store.{shard_state_of}
use Rattle.replica_shard.proofs.Tables.{can_be_tables}
use Rattle.cluster_open.proofs.Numbered.{one_more}
use Rattle.cluster_open.proofs.opening.plans.Goals as goal

pub of-requires-clause-tables : goal.of-requires-clause-tables
of-requires-clause-tables c =
    can_be_tables c.args.shape c.args.flows.now c.as_slice.result.now c.requires.handled (subst (IsBuild c.args.shape c.args.flows.now) (sym c.as_slice.ensures.value) c.requires.built)

pub owners-preserved : goal.owners-preserved
owners-preserved c =
    let plans = c.owners.plans.items in
    let new = c.in_ok-of.field-0 in
    let pushed : c.push.new.self.items ≡ plans ++ new ∷ [] = search rules in
    rw pushed (record {
      all =
          one_more shard_state_of (λ (owner : ℕ). shard_after c.args.shape owner c.args.flows.now []) plans new c.owners.owner c.owners.invariant.all
          (c.in_ok-of.ensures.built c.args.flows.now (subst (IsBuild c.args.shape c.args.flows.now) (sym c.as_slice.ensures.value) c.requires.built));
    })
