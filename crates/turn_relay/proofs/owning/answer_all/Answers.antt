use Rattle.std.proofs.Common.{◌+◌, ◌≤◌, drop, get_or, length, subst, arith}
use Rattle.packet_reader.specs.declared.event.Event.{Event}
use Rattle.packet_reader.specs.declared.event.Event.TheVariants.{Set}
use Rattle.std.proofs.lemmas.List.{drop_all}
use Rattle.turn_relay.proofs.OwnerRuns.{OwnerSoFar, owner_first, owner_last, owner_step, same_owner_trans, dropped}
use Rattle.turn_relay.proofs.owning.answer_all.Goals as goal

-- what the code reads past the end
abbrev none : Event
none = Set (record { key = record { source = 0; destination = 0; source_port = 0; destination_port = 0; protocol = 0 }; node = 0; info = record { teid = 0; base = 0 } })

pub events-init : goal.events-init
events-init g c = (owner_first c.args.flows.now c.args.events.now c.args.owner.now c.requires.none c.requires.stands, omega arith, omega arith)

pub returns-in_err-answer-clause-same : goal.returns-in_err-answer-clause-same
returns-in_err-answer-clause-same g c = same_owner_trans c.args.owner.now c.events.owner c.answer.new.owner c.events.invariant.0.same c.answer.ensures.same

pub events-preserved : goal.events-preserved
events-preserved g c =
    let events = c.args.events.now in
    let i = c.events.event-index in (
      owner_step c.args.flows.now events c.args.owner.now (get_or events i none) (drop (i + 1) events) c.events.owner c.answer.new.owner
          (subst (OwnerSoFar c.args.flows.now events c.args.owner.now c.events.owner) (dropped events i none c.events-test.true) c.events.invariant.0)
          c.answer.ensures.same c.answer.ensures.stands c.in_ok-answer.ensures.answers,
      omega (arith, c.events.invariant.1, c.counted-update.ensures),
      omega (arith, c.events-test.true),
    )

pub returns-clause-owned : goal.returns-clause-owned
returns-clause-owned g c =
    let events = c.args.events.now in
    let past : length events ≤ c.events.event-index = omega arith in
    owner_last c.args.flows.now events c.args.owner.now c.events.owner
    (subst (OwnerSoFar c.args.flows.now events c.args.owner.now c.events.owner) (drop_all c.events.event-index events past) c.events.invariant.0)
