-- One event after the other.
use Rattle.std.proofs.Common.{◌∙◌, ◌+◌, ◌≤◌, ℕ, List, drop, get_or, length, refl, sym, subst, arith}
use Rattle.std.proofs.lemmas.List.{drop_all}
use Rattle.packet_reader.specs.declared.event.Event.{Event}
use Rattle.packet_reader.specs.declared.event.Event.TheVariants.{Set}
use Rattle.run_model.specs.declared.reply.Reply.{Reply}
use Rattle.storm_lane.specs.Lane.{all_seats, lists_of, parts_of}
use Rattle.storm_lane.specs.Readers.{Seats}
use Rattle.storm_lane.specs.Stepping.{TakesStep, WalksSoFar}
use Rattle.storm_model.proofs.Lists.{later-on}
use Rattle.storm_lane.proofs.Steps.{dropped, walks-all, walks-first, walks-step}
use Rattle.storm_lane.proofs.walking.walk.Goals as goal

-- the event that stands for one past the end
abbrev none : Event
none = Set (record { key = record { source = 0; destination = 0; source_port = 0; destination_port = 0; protocol = 0 }; node = 0; info = record { teid = 0; base = 0 } })

pub events-init : goal.events-init
events-init g c = record {
  numbered = omega arith;
  seats = refl;
  far = walks-first c.args.shape (parts_of (all_seats c.args.readers.now)) c.args.lanes c.args.lane (lists_of c.args.readers.now) c.args.first c.args.events.now c.args.replies.now.items;
}

pub events-preserved : goal.events-preserved
events-preserved g c =
    let size = c.args.shape in
    let parts = parts_of (all_seats c.args.readers.now) in
    let events = c.args.events.now in
    let i = c.events.event-index in
    let start = lists_of c.args.readers.now in
    let from = lists_of c.events.readers in
    let now = lists_of c.step-said.new.readers in
    let said = c.step-said.result in
    let event = get_or events i none in
    let far = subst (λ (rest : List Event). WalksSoFar size parts c.args.lanes c.args.lane start c.args.first events c.args.replies.now.items from c.events.packet rest c.events.replies.items)
    (dropped events i none c.events-test.true) c.events.invariant.far in
    let counted = sym {A = ℕ} c.counted-packet.ensures.is in
    let takes = subst (λ (p : List Seats × ℕ). TakesStep size (parts_of p.0) c.args.lanes c.args.lane event c.events.packet p.1 from now said)
    (λ j. (c.events.invariant.seats j, counted j)) c.step-said.ensures.takes in
    record {
      numbered = omega (arith, c.events.invariant.numbered, c.counted-packet.ensures.within);
      seats = c.step-said.ensures.seats ∙ c.events.invariant.seats;
      far = subst
          (λ (rs : List Reply). WalksSoFar size parts c.args.lanes c.args.lane start c.args.first events c.args.replies.now.items now c.counted-packet.result (drop (i + 1) events) rs)
          (sym {A = List Reply} c.in_ok-put.ensures)
          (walks-step size parts c.args.lanes c.args.lane start c.args.first events c.args.replies.now.items event (drop (i + 1) events) c.events.packet c.counted-packet.result from now said
          c.events.replies.items c.step-said.ensures.later takes far);
    }

pub returns-clause-walks : goal.returns-clause-walks
returns-clause-walks g c =
    let parts = parts_of (all_seats c.args.readers.now) in
    let events = c.args.events.now in
    let past : length events ≤ c.events.event-index = omega arith in
    walks-all c.args.shape parts c.args.lanes c.args.lane (lists_of c.args.readers.now) c.args.first events c.args.replies.now.items c.events.packet (lists_of c.events.readers)
    c.events.replies.items
    (subst (λ (rest : List Event). WalksSoFar c.args.shape parts c.args.lanes c.args.lane (lists_of c.args.readers.now) c.args.first events c.args.replies.now.items
    (lists_of c.events.readers) c.events.packet rest c.events.replies.items) (drop_all c.events.event-index events past) c.events.invariant.far)

pub returns-in_err-put-clause-later : goal.returns-in_err-put-clause-later
returns-in_err-put-clause-later g c =
    later-on (lists_of c.args.readers.now) (lists_of c.events.readers) (lists_of c.step-said.new.readers) c.events.invariant.far.later c.step-said.ensures.later
