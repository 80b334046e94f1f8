use Rattle.std.proofs.Common.{◌∙◌, List, [], ap, arith}
use Rattle.group_search.specs.Image.{Image}
use Rattle.replica_shard.specs.Store.{shard_state_of}
use Rattle.replica_shard.proofs.Opened.{state_built}
use Rattle.replica_shard.proofs.shard.plan.ShardPlan.of.Goals as goal

pub returns-clause-built : goal.returns-clause-built
returns-clause-built c flows build =
    ap (λ (own : List Image). shard_state_of (record { size = c.args.shape; owner = c.args.owner; images = own; list = [] })) c.in_ok-of.ensures.images
    ∙ state_built c.args.shape flows c.args.owner c.args.images.now c.in_ok-own.own.items (omega (arith, c.requires.node)) build c.in_ok-own.ensures
