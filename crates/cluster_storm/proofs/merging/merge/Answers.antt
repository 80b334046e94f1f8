-- One event's reply is behind the others.
use Rattle.std.proofs.Common.{◌+◌, ◌≤◌, ℕ, List, length, drop, get_or, sym, subst, arith}
use Rattle.std.proofs.lemmas.List.{drop_all}
use Rattle.packet_reader.specs.declared.event.Event.{Event}
use Rattle.packet_reader.specs.declared.event.Event.TheVariants.{Set}
use Rattle.run_model.specs.declared.reply.Reply.{Reply}
use Rattle.storm_model.specs.Merging.{CanMerge, TakesOne, queues_of}
use Rattle.cluster_storm.proofs.Merges.{MergesSoFar, dropped, merges-all, merges-first, merges-one}
use Rattle.cluster_storm.proofs.merging.merge.Goals as goal

-- the event that stands for one past the end
abbrev none : Event
none = Set (record { key = record { source = 0; destination = 0; source_port = 0; destination_port = 0; protocol = 0 }; node = 0; info = record { teid = 0; base = 0 } })

pub events-init : goal.events-init
events-init c = record {
  lanes_are = c.requires.lanes;
  owners_are = c.requires.owners;
  numbered = omega arith;
  far = merges-first c.args.shape c.args.lanes (queues_of c.args.owners.now) (queues_of c.args.by_lane.now) c.args.first c.args.events.now c.args.replies.now.items c.requires.can;
}

pub take_one-reply-requires-clause-can : goal.take_one-reply-requires-clause-can
take_one-reply-requires-clause-can c =
    let events = c.args.events.now in
    let i = c.events.event-index in (
      drop (i + 1) events,
      subst (CanMerge c.args.shape c.args.lanes (queues_of c.events.owners) (queues_of c.events.by_lane) c.events.packet)
          (dropped events i none c.events-test.true) c.events.invariant.far.can,
    )

pub events-preserved : goal.events-preserved
events-preserved c =
    let events = c.args.events.now in
    let i = c.events.event-index in
    let first_owners = queues_of c.args.owners.now in
    let first_lanes = queues_of c.args.by_lane.now in
    let owners = queues_of c.events.owners in
    let by_lane = queues_of c.events.by_lane in
    let owners' = queues_of c.take_one-reply.new.owners in
    let by_lane' = queues_of c.take_one-reply.new.by_lane in
    let reply = c.take_one-reply.result in
    let far = subst (λ (rest : List Event). MergesSoFar c.args.shape c.args.lanes first_owners first_lanes c.args.first events c.args.replies.now.items owners by_lane c.events.packet rest c.events.replies.items)
    (dropped events i none c.events-test.true) c.events.invariant.far in
    let takes = subst (λ (p : ℕ). TakesOne c.args.shape c.args.lanes (get_or events i none) reply owners by_lane owners' by_lane' c.events.packet p) (sym c.counted-packet.ensures.is) c.take_one-reply.ensures.takes in
    record {
      lanes_are = c.take_one-reply.ensures.lanes;
      owners_are = c.take_one-reply.ensures.owners;
      numbered = omega (arith, c.events.invariant.numbered, c.counted-packet.ensures.within);
      far = subst
          (λ (now : List Reply). MergesSoFar c.args.shape c.args.lanes first_owners first_lanes c.args.first events c.args.replies.now.items owners' by_lane' c.counted-packet.result (drop (i + 1) events) now)
          (sym c.in_ok-push.ensures.items)
          (merges-one c.args.shape c.args.lanes first_owners first_lanes c.args.first events c.args.replies.now.items owners by_lane owners' by_lane' c.events.packet c.counted-packet.result (get_or events i none) (drop (i + 1) events)
          c.events.replies.items reply far takes);
    }

pub returns : goal.returns
returns c =
    let events = c.args.events.now in
    let past : length events ≤ c.events.event-index = omega arith in
    merges-all c.args.shape c.args.lanes (queues_of c.args.owners.now) (queues_of c.args.by_lane.now) c.args.first events c.args.replies.now.items
    (queues_of c.events.owners) (queues_of c.events.by_lane) c.events.packet c.events.replies.items
    (subst (λ (rest : List Event). MergesSoFar c.args.shape c.args.lanes (queues_of c.args.owners.now) (queues_of c.args.by_lane.now) c.args.first events c.args.replies.now.items
    (queues_of c.events.owners) (queues_of c.events.by_lane) c.events.packet rest c.events.replies.items) (drop_all c.events.event-index events past) c.events.invariant.far)
