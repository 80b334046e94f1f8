use Rattle.std.proofs.Common.{Global, Vec, rules, ◌≡◌, length, subst, sym}
use Rattle.storm_lane.specs.declared.readers.OwnerReaders.{OwnerReaders}
use Rattle.turn_relay.specs.Each.{Every}
use Rattle.cluster_storm.specs.Opening.{ReadsAll}
use Rattle.cluster_storm.proofs.Seats.{all-read, take-exact}
use Rattle.cluster_storm.proofs.seating.seat.Goals as goal

pub returns-clause-readers : goal.returns-clause-readers
returns-clause-readers g c =
    let many : length c.seat_nodes.new.lanes ≡ c.in_ok-readers.readers.len = search rules in
    subst (Every (λ (lane : Vec OwnerReaders Global). ReadsAll c.args.shape c.in_ok-appliers.appliers.items lane.items)) (sym (take-exact c.seat_nodes.new.lanes _ c.in_ok-readers.readers.len many))
    (all-read (λ (lane : Vec OwnerReaders Global). lane.items) c.args.shape c.in_ok-appliers.appliers.items c.args.flows.now c.in_ok-appliers.ensures.fresh c.seat_nodes.new.lanes c.in_ok-appliers.ensures.reads)
