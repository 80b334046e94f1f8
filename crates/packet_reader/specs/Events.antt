-- What the rows of a replay and of a storm mean.
use Rattle.std.specs.Prelude.{ℕ, if◌then◌else◌, Option, Result, Err}
use Rattle.flow_types.specs.Size.{Size}
use Rattle.flow_types.specs.declared.why.Why.{Why}
use Rattle.flow_types.specs.declared.why.Why.TheVariants as why
use Rattle.csv_rows.specs.Rows.{Row}
use Rattle.row_fields.specs.Fields.{and_then, with_fields}
use Rattle.packet_reader.specs.declared.event.Event.{Event}
use Rattle.packet_reader.specs.declared.kind.Kind.{Kind}
use Rattle.packet_reader.specs.declared.mode.Mode.{Mode}
use Rattle.packet_reader.specs.Fields.{fields_say}
use Rattle.packet_reader.specs.Kind.{kind_of, width}
use Rattle.packet_reader.specs.Meaning.{Meaning}
use Rattle.packet_reader.specs.Mode.{has_phases, is_sync, may_stand}

-- what a row of this kind says: first whether the mode allows it, then its number of fields, then they from left to right
abbrev pub kind_says : Mode → ℕ → Row → Kind → Result (Option Event) Why
kind_says mode nodes row kind =
    if may_stand mode kind then with_fields (width kind) row (fields_say kind nodes row) else Err why.CarryInStorm

-- what a row of a script says by itself: an event, or by None that the script ends
unfoldable pub script_row : Mode → Size → Row → Result (Option Event) Why
script_row mode shape row = and_then (kind_of row) (kind_says mode shape.nodes row)

-- so the rows of a script of this mode, in a cluster of this shape, say its events
abbrev pub events_in : Mode → Size → Meaning Event
events_in mode shape = record { says = script_row mode shape; is_sync = is_sync; in_phases = has_phases mode }
