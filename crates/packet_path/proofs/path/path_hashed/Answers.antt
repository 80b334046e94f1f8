-- The reply is that of the route, and of the node's FIB.
use Rattle.std.proofs.Common.{◌∙◌, ap}
use Rattle.flow_types.specs.declared.key.FlowKey.{FlowKey}
use Rattle.flow_types.specs.Key.{number}
use Rattle.replica_shard.specs.declared.routing.Route.{Route}
use Rattle.replica_shard.specs.Seats.{seen_list}
use Rattle.packet_path.specs.Fibs.{fib_seen}
use Rattle.packet_path.specs.Path.{home_at, route_at}
use Rattle.packet_path.proofs.Answering.{answered-said}
use Rattle.packet_path.proofs.path.path_hashed.Goals as goal

pub returns-in-Some-clause-said : goal.returns-in-Some-clause-said
returns-in-Some-clause-said g c =
    let list = seen_list c.args.shard.now c.routed-seen.new.reader in
    let fibs = c.found_at-found.new.fibs in
    let route = route_at c.args.shard.now list c.args.key.now in
    let home = home_at c.args.shard.now list c.args.key.now in
    let is = c.routed-seen.ensures.answer in
    c.answered.ensures
    ∙ answered-said route.version route.node (fib_seen fibs) home c.args.key.now c.in-Some.node c.from.result c.routed-seen.result.version c.found_at-found.result.version
    c.found_at-found.result.answer c.routed-seen.result.node (ap (λ (r : Route). r.node) is) c.in-Some.is c.from.ensures (ap (λ (r : Route). r.version) is)
    (c.found_at-found.ensures.version list ∙ ap (λ (k : FlowKey). (fib_seen fibs c.from.result).versions (home_at c.args.shard.now list k)) c.key.ensures)
    (c.found_at-found.ensures.answer ∙ ap (λ (k : FlowKey). (fib_seen fibs c.from.result).records (number k)) c.key.ensures)
