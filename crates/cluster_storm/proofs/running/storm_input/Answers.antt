-- What the rows say can be opened and run, and the printed replies are a run's.
use Rattle.std.proofs.Common.{◌≡◌, List, rules, subst, sym}
use Rattle.std.specs.Prelude.{All}
use Rattle.packet_reader.specs.declared.event.Event.{Event}
use Rattle.packet_reader.specs.declared.mode.Mode.TheVariants.{Storm}
use Rattle.run_model.specs.Laws.{IsRow}
use Rattle.run_model.specs.declared.reply.Reply.{Reply}
use Rattle.run_report.specs.Report.{AreOfTheirEvents, report}
use Rattle.storm_model.specs.Storm.{IsNoCarry}
use Rattle.cluster_open.specs.Input.{opened}
use Rattle.cluster_open.specs.Limits.{named_fault}
use Rattle.cluster_open.specs.Runs.{AreRunReplies, IsRunOf}
use Rattle.cluster_open.proofs.ReadFacts.{fault_of_read, fits, opens}
use Rattle.cluster_storm.proofs.Runs.{are_rows, no_carries, of_their_events, run_of}
use Rattle.cluster_storm.proofs.running.storm_input.Goals as goal

pub open_parts-requires-clause-handled : goal.open_parts-requires-clause-handled
open_parts-requires-clause-handled g c κs within = (fits Storm c.requires.read.0 c.args.input.opening c.args.input.script.items c.requires.read.1).handled

pub returns-in-Err : goal.returns-in-Err
returns-in-Err g c octets read = fault_of_read Storm octets c.args.input.opening c.args.input.script.items read (named_fault c.in-Err.fault) c.in-Err.ensures.refused

pub answer-requires-clause-can : goal.answer-requires-clause-can
answer-requires-clause-can g c κs within = opens Storm c.requires.read.0 c.args.input.opening c.args.input.script.items c.requires.read.1 c.in-Ok.ensures.within

pub answer-requires-clause-carries : goal.answer-requires-clause-carries
answer-requires-clause-carries g c κs within =
    subst (All IsNoCarry) (sym c.as_slice.ensures.value) (no_carries c.requires.read.0 c.args.input.opening c.args.input.script.items c.requires.read.1)

pub answer-requires-clause-rows : goal.answer-requires-clause-rows
answer-requires-clause-rows g c κs within =
    subst (All (IsRow (opened c.args.input.opening))) (sym c.as_slice.ensures.value)
    (are_rows c.requires.read.0 c.args.input.opening c.args.input.script.items c.requires.read.1)

pub report-requires : goal.report-requires
report-requires g c =
    subst (λ (p : List Event × List Reply). AreOfTheirEvents p.0 p.1) (λ i. (sym c.as_slice-2.ensures.value i, sym c.as_slice-3.ensures.value i))
    (subst (λ (events : List Event). AreOfTheirEvents events c.in_ok-replies.replies.items) c.as_slice.ensures.value
    (of_their_events c.args.lanes c.args.input.opening c.as_slice.result.now c.in_ok-replies.replies.items c.in_ok-replies.ensures))

pub returns : goal.returns
returns g c octets read =
    let script = c.args.input.script.items in
    let replies = c.in_ok-replies.replies.items in
    let replied = subst (λ (events : List Event). AreRunReplies Storm c.args.lanes (opened c.args.input.opening) events replies) c.as_slice.ensures.value c.in_ok-replies.ensures in
    let prints : c.in_ok-report.field-0.items ≡ report script replies = search rules in
    subst (IsRunOf Storm c.args.lanes octets) (sym prints) (run_of octets c.args.input.opening script read c.args.lanes replies c.in-Ok.ensures.within replied)
