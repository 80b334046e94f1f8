-- What an input says in a mode: its opening and its script, or its fault.
use Rattle.std.specs.Prelude.{ℕ, List, drop, Option, Some, None, Result, Ok, Err}
use Rattle.std.specs.Result.{result_err}
use Rattle.flow_types.specs.declared.why.BadRow.{BadRow}
use Rattle.csv_rows.specs.Rows.{Row, rows}
use Rattle.flow_reader.specs.Opening.{opening_of}
use Rattle.flow_reader.specs.declared.opening.Opening.{Opening}
use Rattle.group_search.specs.Build.{PastLimit, past_limit}
use Rattle.packet_reader.specs.declared.event.Event.{Event}
use Rattle.packet_reader.specs.declared.mode.Mode.{Mode}
use Rattle.packet_reader.specs.Events.{events_in}
use Rattle.packet_reader.specs.Script.{script_of}
use Rattle.run_model.specs.State.{ClusterOpening}
use Rattle.cluster_open.specs.declared.fault.InputFault.{InputFault}
use Rattle.cluster_open.specs.declared.fault.InputFault.TheVariants.{Bad}
use Rattle.cluster_open.specs.Limits.{fault_of_limit}

-- what the rows of an input say up to `begin`, and what those after it say
pub record Input : Type 0 where
  pub opening : Opening
  pub script : List Event

-- the opening of a cluster that rows say
abbrev pub opened : Opening → ClusterOpening
opened opening = record { size = opening.shape; flows = opening.flows }

-- an opening and a script, where this is past a limit of the table of the opening's flows
abbrev pub input_of_build : Opening → List Event → Option PastLimit → Result Input InputFault
input_of_build opening script (Some past) = Err (fault_of_limit past)
input_of_build opening script None = Ok (record { opening = opening; script = script })

-- a script over an opening's flows
abbrev pub input_of_script : Opening → Result (List Event) BadRow → Result Input InputFault
input_of_script opening (Ok script) = input_of_build opening script (past_limit opening.shape opening.flows)
input_of_script opening (Err bad) = Err (Bad bad)

-- rows: first their opening, then the script of the rows after it, then the table of the flows
abbrev pub input_of_rows : Mode → List Row → Result Opening BadRow → Result Input InputFault
input_of_rows mode all (Ok opening) = input_of_script opening (script_of (events_in mode opening.shape) opening.begin_row (drop opening.begin_row all))
input_of_rows mode all (Err bad) = Err (Bad bad)

-- what an input says in this mode: its opening and its script, or its first bad row, or else the first block that is past a limit
unfoldable pub input_in : Mode → List ℕ → Result Input InputFault
input_in mode octets = input_of_rows mode (rows octets) (opening_of (rows octets))

-- the fault of an input in this mode, if it has one
abbrev pub fault_in : Mode → List ℕ → Option InputFault
fault_in mode octets = result_err (input_in mode octets)
