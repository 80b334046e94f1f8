use Rattle.std.proofs.Common.{◌≡◌, ◌∙◌, List, [], ap}
use Rattle.std.proofs.lemmas.Result.{IfOk-weaker}
use Rattle.flow_types.specs.declared.record.Flow.{Flow}
use Rattle.group_search.specs.Build.{IsBuild}
use Rattle.replica_shard.specs.declared.shard.Shard.{Shard}
use Rattle.replica_shard.specs.declared.shard.ShardWriter.{ShardWriter}
use Rattle.replica_shard.specs.Seats.{shard_taken}
use Rattle.replica_shard.specs.Shard.{shard_after}
use Rattle.replica_shard.specs.Store.{shard_state_of}
use Rattle.replica_shard.proofs.shard.Shard.open.Goals as goal

pub returns-clause-built : goal.returns-clause-built
returns-clause-built c =
    let plan = c.in_ok-plan.plan in
    IfOk-weaker c.open_plan.result (λ (r : Shard × ShardWriter). shard_taken r.0 r.1 ≡ plan)
    (λ (r : Shard × ShardWriter). (flows : List Flow) → IsBuild c.args.shape flows c.args.images.now → shard_state_of (shard_taken r.0 r.1) ≡ shard_after c.args.shape c.args.owner flows [])
    (λ r is flows build. ap shard_state_of is ∙ c.in_ok-plan.ensures.built flows build)
    c.open_plan.ensures.opened
