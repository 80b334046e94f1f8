-- What a run of the program takes for a command, what a command comes to, and which status belongs to it.
use Rattle.std.specs.Prelude.{◌≡◌, ◌⊎◌, ℕ, ◌≤◌, List, length, Option, Some, None, IfSome, IsSome, Result, Ok, Err, IsOk, nat_lt, if◌then◌else◌}
use Rattle.std.specs.Io.KnownBytes.{Appends}
use Rattle.flow_types.specs.Input.{most_octets}
use Rattle.sb_io.specs.Streams.{ReadsAll}
use Rattle.packet_reader.specs.declared.mode.Mode.{Mode}
use Rattle.packet_reader.specs.declared.mode.Mode.TheVariants as mode
use Rattle.cluster_open.specs.declared.fault.InputFault.{InputFault}
use Rattle.cluster_open.specs.declared.fault.InputFault.TheVariants.{Bad, BlockFull, RowsFull, OutOfMemory}
use Rattle.cluster_open.specs.Input.{fault_in}
use Rattle.cluster_open.specs.Runs.{ComesTo, IsRunOf}
use Rattle.command_words.specs.Words.{meant}
use Rattle.command_words.specs.declared.command.Command.{Command}
use Rattle.command_words.specs.declared.command.Task.{Task}
use Rattle.command_words.specs.declared.command.Task.TheVariants.{Replay, Storm, Grind}
use Rattle.scalebricks.specs.Grind.{grind_outcome}
use Rattle.scalebricks.specs.Printed.{IsRefused, printed}
use Rattle.scalebricks.specs.Status.{code}
use Rattle.scalebricks.specs.Status.Status.{Done, InputRefused, NoMemory, TooLarge}
use Rattle.scalebricks.specs.declared.output.Output.{Output}

-- the words are a command
abbrev pub IsCommand : List (List ℕ) → Type 0
IsCommand words = IsSome (meant words)

-- this holds of the command that the words are, where they are one
abbrev pub OfCommand : List (List ℕ) → (Command → Type 0) → Type 0
OfCommand words P = IfSome (meant words) P

-- this holds of the mode in which a command runs its input and of the lanes that answer; a grind has no input
abbrev pub OfRun : Task → (lanes : ℕ) → (Mode → (lanes : ℕ) → Type 0) → Type 0
OfRun Replay lanes P = P mode.Replay 1
OfRun Storm lanes P = P mode.Storm lanes
OfRun Grind lanes P = Unit {0}

-- ---- what an input comes to

-- the whole input was read, it is within the limit, and this holds of it
abbrev pub OfInput : Option (List ℕ) → Option (List ℕ) → (List ℕ → Type 0) → Type 0
OfInput left now P = (octets : List ℕ) × ReadsAll left now octets × (length octets ≤ most_octets) × P octets

-- this holds of what the input comes to in a run
abbrev pub OfOutcome : Mode → (lanes : ℕ) → (Result (List ℕ) InputFault → Type 0) → List ℕ → Type 0
OfOutcome mode lanes P octets = (outcome : Result (List ℕ) InputFault) × ComesTo mode lanes octets outcome × P outcome

-- what was appended is a run's of this input
abbrev pub AppendsRun : Mode → (lanes : ℕ) → (held now : Option (List ℕ)) → List ℕ → Type 0
AppendsRun mode lanes held now octets = (text : List ℕ) × IsRunOf mode lanes octets text × Appends held now text

-- what was appended is the line of the fault
abbrev pub AppendsLine : (held now : Option (List ℕ)) → Result (List ℕ) InputFault → Type 0
AppendsLine held now outcome = IsRefused outcome × Appends held now (printed outcome)

-- ---- what a command comes to

-- this holds of what a command of this task, with these lanes and this seed, comes to: a replay and a storm read the whole input,
-- and a grind makes its own rows
abbrev pub OfCommandsOutcome : Task → (lanes seed : ℕ) → (left now : Option (List ℕ)) → (Result (List ℕ) InputFault → Type 0) → Type 0
OfCommandsOutcome Replay lanes seed left now P = OfInput left now (OfOutcome mode.Replay 1 P)
OfCommandsOutcome Storm lanes seed left now P = OfInput left now (OfOutcome mode.Storm lanes P)
OfCommandsOutcome Grind lanes seed left now P = P (grind_outcome seed)

-- what was appended is the summary that a grind comes to
abbrev pub AppendsSummary : (seed : ℕ) → (held now : Option (List ℕ)) → Type 0
AppendsSummary seed held now = (text : List ℕ) × (grind_outcome seed ≡ Ok text) × Appends held now text

-- what was appended at the end: a replay's is the run of its whole input, on one lane, a storm's is one on these lanes, and a
-- grind's its summary
abbrev pub AppendsAll : Task → (lanes seed : ℕ) → (left left_now held held_now : Option (List ℕ)) → Type 0
AppendsAll Replay lanes seed left left_now held held_now = OfInput left left_now (AppendsRun mode.Replay 1 held held_now)
AppendsAll Storm lanes seed left left_now held held_now = OfInput left left_now (AppendsRun mode.Storm lanes held held_now)
AppendsAll Grind lanes seed left left_now held held_now = AppendsSummary seed held held_now

-- ---- statuses

-- the input is within its limit, and no row of it breaks a rule in this mode, nor are its flows past a limit of the table
pub record IsReadable (mode : Mode) (octets : List ℕ) : Type 0 where
  pub within : length octets ≤ most_octets
  pub accepted : fault_in mode octets ≡ None

abbrev pub fault_status : InputFault → ℕ
fault_status (Bad row) = code InputRefused
fault_status (BlockFull block) = code InputRefused
fault_status (RowsFull block) = code InputRefused
fault_status OutOfMemory = code NoMemory

abbrev pub outcome_status : Result (List ℕ) InputFault → ℕ
outcome_status (Ok text) = code Done
outcome_status (Err fault) = fault_status fault

-- the status of an input with this fault, or with none
abbrev pub status_by : Option InputFault → ℕ
status_by None = code Done
status_by (Some fault) = fault_status fault

-- the status of an input that is run in this mode, where neither reading nor writing fails and there is memory
abbrev pub status_of : Mode → List ℕ → ℕ
status_of mode octets = if nat_lt most_octets (length octets) then code TooLarge else status_by (fault_in mode octets)

-- the output of a run of this input: it prints what the input comes to, and its status tells of that
pub record IsOutputOf (mode : Mode) (lanes : ℕ) (octets : List ℕ) (output : Output) : Type 0 where
  pub outcome : Result (List ℕ) InputFault
  pub comes_to : ComesTo mode lanes octets outcome
  pub known : IsOk outcome ⊎ IsRefused outcome
  pub prints : output.text.items ≡ printed outcome
  pub status : output.status ≡ outcome_status outcome
