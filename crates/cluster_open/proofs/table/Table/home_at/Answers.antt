use Rattle.std.proofs.Common.{◌≡◌, subst}
use Rattle.group_search.specs.Home.{Home}
use Rattle.replica_shard.specs.Seats.{taken_list}
use Rattle.replica_shard.specs.Shard.{home_in_state}
use Rattle.replica_shard.specs.Store.{ShardStore, shard_state_of}
use Rattle.cluster_open.proofs.table.Table.home_at.Goals as goal

pub returns-clause-home : goal.returns-clause-home
returns-clause-home c =
    let at : Home = record { block = c.home_at.result.0; group = c.home_at.result.1 } in
    subst (λ (s : ShardStore). at ≡ home_in_state (shard_state_of s) c.args.at) c.self.view_is (c.home_at.ensures.home (taken_list c.self.inside.shard c.self.inside.writer))
