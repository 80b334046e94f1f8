use Rattle.replica_shard.proofs.Opened.{home_after, route_after}
use Rattle.replica_shard.proofs.laws.routes_follow_changes.Goals as goal

pub returns : goal.returns
returns c = record { homes = home_after; routes = route_after }
