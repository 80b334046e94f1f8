-- What a grind comes to.
use Rattle.std.specs.Prelude.{ℕ, List, length, Result}
use Rattle.csv_rows.specs.Rows.{rows}
use Rattle.run_report.specs.Report.{summary}
use Rattle.cluster_open.specs.declared.fault.InputFault.{InputFault}
use Rattle.cluster_open.specs.Input.{Input}
use Rattle.cluster_replay.specs.Outcome.{Replies, outcome_by, replay_replies}
use Rattle.grind_rows.specs.Input.{grind_octets}

-- the summary of a replay of the seed's rows
abbrev pub summary_of : (seed : ℕ) → Replies → List ℕ
summary_of seed made = summary seed (length (rows (grind_octets seed))) made.replies

abbrev pub grind_summary : (seed : ℕ) → Input → List ℕ
grind_summary seed input = summary_of seed (replay_replies input)

-- what a grind comes to: the summary of a replay of its seed's rows, or the fault of these rows
unfoldable pub grind_outcome : (seed : ℕ) → Result (List ℕ) InputFault
grind_outcome seed = outcome_by (grind_summary seed) (grind_octets seed)
