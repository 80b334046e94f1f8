use Rattle.std.proofs.Common.{◌≡◌, ◌∙◌, ℕ, List, Ok, Result, ap, length, rules, subst, sym}
use Rattle.std.specs.Prelude.{IfSome, Err}
use Rattle.csv_rows.specs.Rows.{rows}
use Rattle.run_report.specs.Report.{summary}
use Rattle.cluster_open.specs.declared.fault.InputFault.{InputFault}
use Rattle.cluster_open.specs.Limits.{named_fault}
use Rattle.cluster_replay.specs.Outcome.{outcome_by, replay_replies}
use Rattle.cluster_replay.specs.Seen.{said}
use Rattle.cluster_replay.proofs.RunFacts.{made_of_replies, named_of_replies}
use Rattle.grind_rows.specs.Input.{grind_octets}
use Rattle.scalebricks.specs.Grind.{grind_outcome, summary_of}
use Rattle.scalebricks.proofs.grinding.grind.Goals as goal

pub returns-in-Ok : goal.returns-in-Ok
unfolding grind_outcome
returns-in-Ok g c =
    let seed = c.args.seed in
    let made = c.in-Ok.made in
    let octets : c.as_slice.result.now ≡ grind_octets seed = search rules in
    let answered : outcome_by replay_replies (grind_octets seed) ≡ Ok (said made) = subst (λ (bytes : List ℕ). outcome_by replay_replies bytes ≡ Ok (said made)) octets c.in-Ok.ensures.answers in
    let counted : made.row_count ≡ length (rows (grind_octets seed)) = subst (λ (bytes : List ℕ). made.row_count ≡ length (rows bytes)) octets c.in-Ok.ensures.counted in
    let prints : c.in_ok-summary-in-Ok.field-0.items ≡ summary seed made.row_count made.replies.items = search rules in
    let with : List ℕ → Result (List ℕ) InputFault = λ text. Ok text in
    made_of_replies (summary_of seed) (grind_octets seed) (said made) answered ∙ ap with (sym (prints ∙ ap (λ count. summary seed count made.replies.items) counted))

pub returns : goal.returns
unfolding grind_outcome
returns g c =
    let seed = c.args.seed in
    let octets : c.as_slice.result.now ≡ grind_octets seed = search rules in
    named_of_replies (summary_of seed) (grind_octets seed) (named_fault c.in-Err.fault)
    (subst (λ (bytes : List ℕ). IfSome (named_fault c.in-Err.fault) (λ reason. outcome_by replay_replies bytes ≡ Err reason)) octets c.in-Err.ensures.answers)
