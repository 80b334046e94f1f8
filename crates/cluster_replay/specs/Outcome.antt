-- What an input comes to in a replay.
use Rattle.std.specs.Prelude.{ℕ, List, Result, Ok, Err}
use Rattle.packet_reader.specs.declared.event.Event.{Event}
use Rattle.packet_reader.specs.declared.mode.Mode.TheVariants.{Replay}
use Rattle.run_model.specs.Replaying.{replayed_with_updates}
use Rattle.run_model.specs.declared.reply.Reply.{Reply}
use Rattle.run_report.specs.Report.{report}
use Rattle.cluster_open.specs.declared.fault.InputFault.{InputFault}
use Rattle.cluster_open.specs.Input.{Input, input_in, opened}

-- what is made of an input's opening and its script, where it has no fault
module _ {A : Type 0} (made : Input → A) where
  abbrev pub made_of : Result Input InputFault → Result A InputFault
  made_of (Ok input) = Ok (made input)
  made_of (Err fault) = Err fault

  -- what an input comes to: what is made of it, or its fault
  unfoldable pub outcome_by : List ℕ → Result A InputFault
  outcome_by octets = made_of (input_in Replay octets)

-- the replies of a replay of the script
abbrev pub replayed_input : Input → List Reply
replayed_input input = replayed_with_updates (opened input.opening) input.script

-- the report of a replay of the script
abbrev pub replay_report : Input → List ℕ
replay_report input = report input.script (replayed_input input)

-- what a replayed input comes to: its report, or its first bad row, or else the first block that is past a limit
abbrev pub outcome : List ℕ → Result (List ℕ) InputFault
outcome = outcome_by replay_report

-- a script and the replies to its events
pub record Replies : Type 0 where
  pub script : List Event
  pub replies : List Reply

-- the script with the replies of a replay
abbrev pub replay_replies : Input → Replies
replay_replies input = record { script = input.script; replies = replayed_input input }
