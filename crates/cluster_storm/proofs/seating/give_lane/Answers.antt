use Rattle.std.proofs.Common.{◌∙◌, ap}
use Rattle.std.proofs.lemmas.Result.{on_ok_weaker}
use Rattle.turn_relay.specs.PartState.{PartState}
use Rattle.cluster_storm.proofs.Seats.{takes-part}
use Rattle.cluster_storm.proofs.seating.give_lane.Goals as goal

pub returns-clause-given : goal.returns-clause-given
returns-clause-given c =
    on_ok_weaker c.push.result
    (takes-part c.args.owner c.args.part.now c.args.lane.now.items c.requires.awaits.element c.requires.awaits.there c.index_mut.result.now c.index_mut.ensures.value
    c.in_ok-view.view (c.in_ok-view.ensures.shard ∙ ap (λ (p : PartState). p.table.shard) c.part.view_is)
    (c.in_ok-view.ensures.seen ∙ ap (λ (p : PartState). p.table.list) c.part.view_is) c.args.fib c.requires.told c.push.new.self)
    c.push.ensures.put
