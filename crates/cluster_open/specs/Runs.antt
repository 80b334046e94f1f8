-- A run of an input, in a mode and on a number of lanes: what stands in its output.
use Rattle.std.specs.Prelude.{◌≡◌, ℕ, List, Some, Result, Ok, Err, Vec, IfSome}
use Rattle.std.specs.Global.{Global}
use Rattle.csv_rows.specs.Rows.{rows}
use Rattle.packet_reader.specs.declared.event.Event.{Event}
use Rattle.packet_reader.specs.declared.mode.Mode.{Mode}
use Rattle.packet_reader.specs.declared.mode.Mode.TheVariants.{Replay, Storm}
use Rattle.run_model.specs.declared.reply.Reply.{Reply}
use Rattle.run_model.specs.Allowed.{Allowed}
use Rattle.run_model.specs.Lanes.{NeverFalls}
use Rattle.run_model.specs.Laws.{no_journals}
use Rattle.run_model.specs.Replaying.{replayed_with_updates}
use Rattle.run_model.specs.State.{ClusterOpening}
use Rattle.run_model.specs.Told.{EachPacket, GoesByRecord, TellsAtOneVersion}
use Rattle.run_report.specs.Report.{report}
use Rattle.cluster_open.specs.declared.fault.InputFault.{InputFault}
use Rattle.cluster_open.specs.FirstBad.{CanRun}
use Rattle.cluster_open.specs.Input.{Input, fault_in, opened}
use Rattle.cluster_open.specs.Limits.{named_fault}

-- ---- its replies

-- this number of lanes may answer in this mode, and where the mode fixes the replies, these are they
abbrev pub IsOfMode : Mode → (lanes : ℕ) → ClusterOpening → List Event → List Reply → Type 0
IsOfMode Replay lanes opening script replies = (lanes ≡ 1) × (replies ≡ replayed_with_updates opening script)
IsOfMode Storm lanes opening script replies = Unit {0}

-- the model allows these replies to the script. Each packet goes where a canonical record of its key's group sends it; where all
-- that answer stand at one version, the reply tells of the group's map at this version; and no lane goes back
pub record AreRunReplies (mode : Mode) (lanes : ℕ) (opening : ClusterOpening) (script : List Event) (replies : List Reply) : Type 0 where
  pub allowed : Allowed opening lanes script replies
  pub by_records : EachPacket opening (GoesByRecord opening) (no_journals opening) script replies
  pub at_one_version : EachPacket opening (TellsAtOneVersion opening) (no_journals opening) script replies
  pub never_back : NeverFalls opening lanes 0 script replies
  pub of_mode : IsOfMode mode lanes opening script replies

-- ---- its text

-- the text is a run's of this input: the rows say an opening and a script that can be run, and the text reports the script with a
-- run's replies
pub record IsRunOf (mode : Mode) (lanes : ℕ) (octets text : List ℕ) : Type 0 where
  pub input : Input
  pub replies : List Reply
  pub runs : CanRun mode (rows octets) input
  pub replied : AreRunReplies mode lanes (opened input.opening) input.script replies
  pub prints : text ≡ report input.script replies

-- ---- what it comes to

-- an input comes to a text of a run, or to its fault, in this mode and on this number of lanes
abbrev pub ComesTo : Mode → (lanes : ℕ) → List ℕ → Result (List ℕ) InputFault → Type 0
ComesTo mode lanes octets (Ok text) = IsRunOf mode lanes octets text
ComesTo mode lanes octets (Err fault) = fault_in mode octets ≡ Some fault

-- the answer is what the input comes to, or want of memory
abbrev pub AnswersRun : Mode → (lanes : ℕ) → List ℕ → Result (Vec ℕ Global) InputFault → Type 0
AnswersRun mode lanes octets (Ok text) = ComesTo mode lanes octets (Ok text.items)
AnswersRun mode lanes octets (Err fault) = IfSome (named_fault fault) (λ named. ComesTo mode lanes octets (Err named))
