use Rattle.std.proofs.Common.{◌≡◌, ◌∙◌, List, ℕ, Ok, Result, ap, rules, sym}
use Rattle.run_report.specs.Report.{report}
use Rattle.cluster_open.specs.declared.fault.InputFault.{InputFault}
use Rattle.cluster_open.specs.Limits.{named_fault}
use Rattle.cluster_replay.specs.Outcome.{Replies, replay_replies}
use Rattle.cluster_replay.specs.Seen.{said}
use Rattle.cluster_replay.proofs.RunFacts.{fault_named, made_of_replies, named_of_replies, replays_are_runs}
use Rattle.cluster_replay.proofs.replaying.replay_input.Goals as goal

abbrev printed : Replies → List ℕ
printed r = report r.script r.replies

pub returns-in_ok-report-in-Ok-clause-answers : goal.returns-in_ok-report-in-Ok-clause-answers
returns-in_ok-report-in-Ok-clause-answers g c octets read =
    let prints : c.in_ok-report-in-Ok.field-0.items ≡ printed (said c.in-Ok.made) = search rules in
    let with : List ℕ → Result (List ℕ) InputFault = λ text. Ok text in
    made_of_replies printed octets (said c.in-Ok.made) (c.in-Ok.ensures.answers octets read) ∙ ap with (sym prints)

pub returns-in_ok-report-in-Ok-clause-run : goal.returns-in_ok-report-in-Ok-clause-run
returns-in_ok-report-in-Ok-clause-run g c octets read =
    let prints : c.in_ok-report-in-Ok.field-0.items ≡ printed (said c.in-Ok.made) = search rules in
    let with : List ℕ → Result (List ℕ) InputFault = λ text. Ok text in
    ((replays_are_runs octets).printed c.in_ok-report-in-Ok.field-0.items).0
    (made_of_replies printed octets (said c.in-Ok.made) (c.in-Ok.ensures.answers octets read) ∙ ap with (sym prints))

pub returns-in-Err-clause-answers : goal.returns-in-Err-clause-answers
returns-in-Err-clause-answers g c octets read = named_of_replies printed octets (named_fault c.in-Err.fault) (c.in-Err.ensures.answers octets read)

pub returns-in-Err-clause-run : goal.returns-in-Err-clause-run
returns-in-Err-clause-run g c octets read = fault_named replay_replies octets (named_fault c.in-Err.fault) (c.in-Err.ensures.answers octets read)
