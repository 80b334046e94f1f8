-- One phase after the other.
use Rattle.std.proofs.Common.{◌≡◌, List, length, rules, subst, sym}
use Rattle.std.specs.Prelude.{All}
use Rattle.run_model.specs.declared.reply.Reply.{Reply}
use Rattle.run_model.specs.Laws.{IsRow}
use Rattle.storm_model.specs.Phase.{BreaksOff}
use Rattle.storm_model.specs.Storm.{IsNoCarry}
use Rattle.cluster_storm.specs.Rest.{AreLinkedFor, opening_of, state_of}
use Rattle.cluster_storm.proofs.Storming.{StormsSoFar, all-left, linked-in-phase, rows-in-phase, split-at-end, split-at-sync, storms-first, storms-last, storms-sync}
use Rattle.cluster_storm.proofs.phases.run_storm.Goals as goal

pub phases-init : goal.phases-init
phases-init g c =
    let storm = state_of c.args.storm.now in
    record {
      rests = c.requires.rests;
      linked = c.requires.linked;
      far = subst (λ (replies : List Reply). StormsSoFar storm c.args.script.now storm c.args.script.now 0 0 replies) (sym c.in_ok-replies.ensures.items)
          (storms-first storm c.args.script.now c.requires.rests.can c.requires.new);
    }

pub phase_length-requires : goal.phase_length-requires
phase_length-requires g c =
    all-left (state_of c.args.storm.now) c.args.script.now (state_of c.phases.storm) c.phases.left.now c.phases.next.packet c.phases.next.update c.phases.replies.items
    c.phases.invariant.far IsNoCarry c.requires.carries

pub run_phase-requires-clause-rows : goal.run_phase-requires-clause-rows
run_phase-requires-clause-rows g c κs within =
    subst (All (IsRow (opening_of c.phases.storm))) (sym c.split_at.ensures.front)
    (rows-in-phase (state_of c.args.storm.now) c.args.script.now (state_of c.phases.storm) c.phases.left.now c.phases.next.packet c.phases.next.update
    c.phases.replies.items c.phases.invariant.far c.phase_length.result c.requires.rows)

pub run_phase-requires-clause-linked : goal.run_phase-requires-clause-linked
run_phase-requires-clause-linked g c κs within =
    subst (AreLinkedFor c.phases.storm) (sym c.split_at.ensures.front)
    (linked-in-phase (state_of c.args.storm.now) c.args.script.now (state_of c.phases.storm) c.phases.left.now c.phases.next.packet c.phases.next.update
    c.phases.replies.items c.phases.invariant.far c.phases.storm c.phase_length.result c.phases.invariant.linked)

pub returns-in_default : goal.returns-in_default
returns-in_default g c =
    let empty : length c.split_at.result.1.now ≡ 0 = search rules in
    storms-last (state_of c.args.storm.now) c.args.script.now (state_of c.phases.storm) c.phases.left.now c.phases.next.packet c.phases.next.update c.phases.replies.items
    c.phases.invariant.far c.requires.rests.can.shape c.requires.rests.some_lane (state_of c.run_phase.new.storm) c.run_phase.new.replies.items c.split_at.result.0.now
    c.in_ok-run_phase.ensures.worked.said
    (split-at-end c.phases.left.now c.split_at.result.0.now c.split_at.result.1.now c.split_at.ensures.by_index.0 empty)

pub phases-preserved : goal.phases-preserved
phases-preserved g c =
    let storm = state_of c.args.storm.now in
    let script = c.args.script.now in
    let left = c.phases.left.now in
    let events = c.split_at.result.0.now in
    let back = c.split_at.result.1.now in
    let others = c.in-Some.others.now in
    let numbers = c.numbers_after-next in
    let breaks : BreaksOff back = subst BreaksOff (sym c.split_at.ensures.back) c.phase_length.ensures.breaks in
    let splits = split-at-sync left events back c.in-Some._sync.now others c.split_at.ensures.by_index.0 c.in-Some.ensures.cases.0 breaks in
    record {
      rests = c.in_ok-run_phase.ensures.worked.rests;
      linked = c.in_ok-run_phase.ensures.worked.links script c.phases.invariant.linked;
      far = subst (λ (replies : List Reply). StormsSoFar storm script (state_of c.run_phase.new.storm) others numbers.result.packet numbers.result.update replies)
          (sym c.in_ok-push.ensures.items)
          (storms-sync storm script (state_of c.phases.storm) left c.phases.next.packet c.phases.next.update c.phases.replies.items c.phases.invariant.far
          c.requires.rests.can.shape c.requires.rests.some_lane (state_of c.run_phase.new.storm) c.run_phase.new.replies.items events c.in_ok-run_phase.ensures.worked.said
          others numbers.result.packet numbers.result.update splits numbers.ensures.packets numbers.ensures.packets_within numbers.ensures.updates_within);
    }
