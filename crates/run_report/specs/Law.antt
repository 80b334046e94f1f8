-- What a printed text tells: it has one list of replies.
use Rattle.std.specs.Prelude.{◌≡◌, ◌≢◌, ℕ, ◌^◌, ◌<◌, ◌≤◌, List, All}
use Rattle.std.specs.List.{AllZip}
use Rattle.flow_types.specs.Map.{IsRecordValue}
use Rattle.flow_types.specs.declared.record.Flow.{Flow}
use Rattle.packet_reader.specs.declared.event.Event.{Event}
use Rattle.packet_reader.specs.declared.event.Event.TheVariants.{Set, Del}
use Rattle.group_history.specs.declared.refused.UpdateRefused.TheVariants.{RowsFull}
use Rattle.run_model.specs.declared.reply.Reply.{Reply}
use Rattle.run_model.specs.declared.reply.Reply.TheVariants.{Refused}
use Rattle.run_model.specs.Allowed.{Allowed}
use Rattle.run_model.specs.Laws.{CanBeOpened}
use Rattle.run_model.specs.State.{ClusterOpening}
use Rattle.run_report.specs.Report.{report}

-- the flow's numbers fit their types: its node has 8 bits, and those of its record have 32
pub record FlowFits (flow : Flow) : Type 0 where
  pub node : flow.node < 2 ^ 8
  pub record_value : IsRecordValue flow.info

-- so do those of the flow that the event sets, if it sets one
abbrev pub SetFits : Event → Type 0
SetFits (Set flow) = FlowFits flow
SetFits _ = Unit {0}

-- so do those of the cluster: the number of its nodes, those of all flows of its opening, and of all that the script sets
pub record NumbersFit (opened : ClusterOpening) (script : List Event) : Type 0 where
  pub nodes : opened.size.nodes ≤ 2 ^ 8
  pub flows : All FlowFits opened.flows
  pub sets : All SetFits script

-- two lists of replies that are allowed for one script whose numbers fit, whatever the numbers of lanes, are one where their
-- reports are
abbrev pub OneReportOneRun : Type 0
OneReportOneRun = (opened : ClusterOpening) (lanes others : ℕ) (script : List Event) (replies other : List Reply) → NumbersFit opened script
    → Allowed opened lanes script replies → Allowed opened others script other → report script replies ≡ report script other → replies ≡ other

-- a deletion isn't refused for rows
abbrev pub IsNotShortOfRows : Event → Reply → Type 0
IsNotShortOfRows (Del key) reply = (block needed free : ℕ) → reply ≢ Refused (RowsFull block needed free)
IsNotShortOfRows _ reply = Unit {0}

-- in a cluster that can be opened none is, so of deletions only these lines are printed: accepted, refused as spent, and
-- refused as absent
abbrev pub DeletionsHaveRows : Type 0
DeletionsHaveRows = (opened : ClusterOpening) (lanes : ℕ) (script : List Event) (replies : List Reply) → CanBeOpened opened → Allowed opened lanes script replies
    → AllZip IsNotShortOfRows script replies
