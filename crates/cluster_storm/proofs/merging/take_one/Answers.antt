-- The event says which worker's reply is taken.
use Rattle.std.proofs.Common.{◌≡◌, ◌≢◌, ℕ, ◌∷◌, subst}
use Rattle.storm_model.specs.Merging.{queues_of}
use Rattle.cluster_storm.proofs.Merges.{takes-set, takes-del, takes-packet}
use Rattle.cluster_storm.proofs.merging.take_one.Goals as goal

pub returns-in-Set-clause-takes : goal.returns-in-Set-clause-takes
returns-in-Set-clause-takes c =
    let before = queues_of c.args.owners.now in
    let after = queues_of c.next.new.queues in
    rw c.in-Set.is
    (takes-set c.args.shape c.args.lanes c.in-Set.flow c.next.result before (queues_of c.args.by_lane.now) after c.args.packet
    (subst (λ (w : ℕ). before w ≡ c.next.result ∷ after w) c.owner_of.ensures.is c.next.ensures.taken)
    (subst (λ (w : ℕ). (other : ℕ) → other ≢ w → after other ≡ before other) c.owner_of.ensures.is c.next.ensures.others))

pub returns-in-Del-clause-takes : goal.returns-in-Del-clause-takes
returns-in-Del-clause-takes c =
    let before = queues_of c.args.owners.now in
    let after = queues_of c.next-in-Del.new.queues in
    rw c.in-Del.is
    (takes-del c.args.shape c.args.lanes c.in-Del.key c.next-in-Del.result before (queues_of c.args.by_lane.now) after c.args.packet
    (subst (λ (w : ℕ). before w ≡ c.next-in-Del.result ∷ after w) c.owner_of-in-Del.ensures.is c.next-in-Del.ensures.taken)
    (subst (λ (w : ℕ). (other : ℕ) → other ≢ w → after other ≡ before other) c.owner_of-in-Del.ensures.is c.next-in-Del.ensures.others))

pub returns-in-Packet-clause-takes : goal.returns-in-Packet-clause-takes
returns-in-Packet-clause-takes c =
    rw c.in-Packet.is
    (takes-packet c.args.shape c.args.lanes c.in-Packet.ingress c.in-Packet.key c.next-in-Packet.result (queues_of c.args.owners.now) (queues_of c.args.by_lane.now)
    (queues_of c.next-in-Packet.new.queues) c.args.packet c.next-in-Packet.ensures.taken c.next-in-Packet.ensures.others)
