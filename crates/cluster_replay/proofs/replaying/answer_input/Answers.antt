use Rattle.std.proofs.Common.{◌≡◌, ◌∙◌, ◌+◌, ◌<◌, ◌^◌, All, List, Ok, Result, length, ap, arith, rules, subst, sym}
use Rattle.packet_reader.specs.declared.mode.Mode.TheVariants.{Replay}
use Rattle.packet_reader.specs.Form.{IsFormed}
use Rattle.run_model.specs.Replaying.{replayed_with_updates, replies_from}
use Rattle.run_model.specs.declared.reply.Reply.{Reply}
use Rattle.run_report.specs.Report.{AreOfTheirEvents}
use Rattle.cluster_open.specs.declared.fault.InputFault.{InputFault}
use Rattle.cluster_open.specs.Limits.{named_fault}
use Rattle.cluster_open.specs.Input.{Input, opened}
use Rattle.cluster_open.proofs.ReadFacts.{counted, fault_of_read, fits, formed, input_of_read, runs}
use Rattle.cluster_replay.specs.Outcome.{Replies, replay_replies}
use Rattle.cluster_replay.proofs.RunFacts.{made_of_input, named_of_fault, replies_fit}
use Rattle.cluster_replay.proofs.Replied.{formed_there, replies_are}
use Rattle.cluster_replay.proofs.replaying.answer_input.Goals as goal

pub open-requires-clause-handled : goal.open-requires-clause-handled
open-requires-clause-handled g c κs within = (fits Replay c.requires.read.0 c.args.input.opening c.args.input.script.items c.requires.read.1).handled

pub returns-in-Err-clause-answers : goal.returns-in-Err-clause-answers
returns-in-Err-clause-answers g c octets read =
    named_of_fault replay_replies octets (named_fault c.in-Err.fault)
    (fault_of_read Replay octets c.args.input.opening c.args.input.script.items read (named_fault c.in-Err.fault) c.in-Err.ensures.refused)

pub row_count-row_count-requires : goal.row_count-row_count-requires
row_count-row_count-requires g c =
    let read = c.requires.read.1 in
    let rows_are = counted Replay c.requires.read.0 c.args.input.opening c.args.input.script.items read in
    let len : c.len.result ≡ length c.args.input.script.items = search rules in
    let few : c.args.input.opening.begin_row + c.len.result + 1 < 2 ^ 32 = omega (arith, rows_are, read.few, len) in
    few

pub replies-requires : goal.replies-requires
replies-requires g c =
    let opening = c.args.input.opening in
    let script = c.args.input.script.items in
    let all : All (IsFormed Replay opening.shape) script = formed Replay c.requires.read.0 opening script c.requires.read.1 in
    let same : c.as_slice.result.now ≡ script = search rules in
    subst (All (IsFormed Replay c.in-Ok.cluster.cluster.opened.size)) (sym same) (formed_there c.in-Ok.cluster.cluster (opened opening) script c.in-Ok.ensures.opened all)

pub returns-clause-answers : goal.returns-clause-answers
returns-clause-answers g c octets read =
    let opening = c.args.input.opening in
    let script = c.args.input.script.items in
    let made : c.in_ok-replies.replies.items ≡ replies_from c.in-Ok.cluster.cluster script = search rules in
    let replied : c.in_ok-replies.replies.items ≡ replayed_with_updates (opened opening) script =
    replies_are c.in-Ok.cluster.cluster (opened opening) script c.in_ok-replies.replies.items c.in-Ok.ensures.opened made in
    let with : List Reply → Result Replies InputFault = λ replies. Ok (record { script = script; replies = replies }) in
    let input : Input = record { opening = opening; script = script } in
    made_of_input replay_replies octets input (input_of_read Replay octets opening script read c.in-Ok.ensures.within) ∙ ap with (sym replied)

pub returns-clause-fit : goal.returns-clause-fit
returns-clause-fit g c =
    let opening = c.args.input.opening in
    let script = c.args.input.script.items in
    let made : c.in_ok-replies.replies.items ≡ replies_from c.in-Ok.cluster.cluster script = search rules in
    let replied : c.in_ok-replies.replies.items ≡ replayed_with_updates (opened opening) script =
    replies_are c.in-Ok.cluster.cluster (opened opening) script c.in_ok-replies.replies.items c.in-Ok.ensures.opened made in
    let input : Input = record { opening = opening; script = script } in
    subst (AreOfTheirEvents script) (sym replied) (replies_fit c.requires.read.0 input (runs Replay c.requires.read.0 opening script c.requires.read.1 c.in-Ok.ensures.within))

pub returns-clause-counted : goal.returns-clause-counted
returns-clause-counted g c octets read =
    let opening = c.args.input.opening in
    let script = c.args.input.script.items in
    let len : c.len.result ≡ length script = search rules in
    c.row_count-row_count.ensures ∙ ap (λ n. opening.begin_row + n + 1) len ∙ sym (counted Replay octets opening script read)
