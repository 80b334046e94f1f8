use Rattle.std.proofs.Common.{Global, Vec, length}
use Rattle.storm_lane.specs.declared.readers.OwnerReaders.{OwnerReaders}
use Rattle.cluster_storm.proofs.Seats.{all-end}
use Rattle.cluster_storm.proofs.seating.seat_node.Goals as goal

pub returns-clause-reads : goal.returns-clause-reads
returns-clause-reads g c =
    all-end (λ (lane : Vec OwnerReaders Global). lane.items) c.args.shape c.args.appliers.now c.in_ok-parts.parts.items (length c.args.appliers.now) c.in_ok-parts.ensures.many
    c.seat_parts.new.lanes c.in_ok-parts.ensures.reads
