-- What holds of every input that can be run.
use Rattle.std.specs.Prelude.{◌≡◌, ℕ, List, None}
use Rattle.csv_rows.specs.Rows.{rows}
use Rattle.flow_reader.specs.FirstBad.{IsOpening}
use Rattle.flow_reader.specs.declared.opening.Opening.{Opening}
use Rattle.group_search.specs.Build.{past_limit}
use Rattle.packet_reader.specs.declared.event.Event.{Event}
use Rattle.packet_reader.specs.declared.mode.Mode.{Mode}
use Rattle.packet_reader.specs.Form.{IsScriptOf}
use Rattle.run_model.specs.declared.reply.Reply.{Reply}
use Rattle.run_model.specs.Allowed.{Allowed}
use Rattle.run_model.specs.Laws.{CanBeOpened}
use Rattle.run_report.specs.Report.{report}
use Rattle.cluster_open.specs.FirstBad.{AreReadable}
use Rattle.cluster_open.specs.Input.{opened}
use Rattle.cluster_open.specs.Runs.{IsRunOf}

-- a cluster can be opened by what the rows up to `begin` say, where no block is past a limit, and the events that the rows
-- after it say make a script of this mode
pub record CanBeRun (mode : Mode) (octets : List ℕ) : Type 0 where
  pub opens : (opening : Opening) → IsOpening (rows octets) opening → past_limit opening.shape opening.flows ≡ None → CanBeOpened (opened opening)
  pub formed : (opening : Opening) (script : List Event) → AreReadable mode (rows octets) opening script → IsScriptOf mode opening.shape script

-- ---- what a text tells

-- of a script that rows say, two lists of replies that the model allows, each on any number of lanes, are one where their reports are
abbrev pub OneReportOneList : Mode → List ℕ → Type 0
OneReportOneList mode octets =
    (opening : Opening) (script : List Event) → AreReadable mode (rows octets) opening script
    → (lanes others : ℕ) (replies other : List Reply) → Allowed (opened opening) lanes script replies → Allowed (opened opening) others script other
    → report script replies ≡ report script other → replies ≡ other

-- two runs of an input are of one opening, one script and one list of replies
pub record IsOneRun (mode : Mode) (octets text : List ℕ) (lanes others : ℕ) (one : IsRunOf mode lanes octets text) (other : IsRunOf mode others octets text) : Type 0 where
  pub input : one.input ≡ other.input
  pub replies : one.replies ≡ other.replies

-- so a text is that of one run of an input at most, whatever the number of lanes
abbrev pub OneTextOneRun : Mode → List ℕ → Type 0
OneTextOneRun mode octets =
    (text : List ℕ) (lanes others : ℕ) (one : IsRunOf mode lanes octets text) (other : IsRunOf mode others octets text) → IsOneRun mode octets text lanes others one other

-- what a text tells of an input in this mode
pub record TextTells (mode : Mode) (octets : List ℕ) : Type 0 where
  pub one_list : OneReportOneList mode octets
  pub one_run : OneTextOneRun mode octets
