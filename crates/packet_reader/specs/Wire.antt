-- What the rows of a script with raw packets mean: those of a replay, `wire` and `tunnel`.
use Rattle.std.specs.Prelude.{ℕ, if◌then◌else◌, codes, Bool, false, List, Option, Some, None, Result, Ok, Err}
use Rattle.flow_types.specs.Size.{Size}
use Rattle.flow_types.specs.declared.why.Why.{Why}
use Rattle.flow_types.specs.declared.why.Why.TheVariants as why
use Rattle.csv_rows.specs.Rows.{Field, Row, field_at}
use Rattle.gtpu_path.specs.declared.hexadecimal.HexRefused.{HexRefused}
use Rattle.gtpu_path.specs.Hex.{hex_in}
use Rattle.row_fields.specs.Fields.{and_then, is_kind, node_field, with_fields}
use Rattle.packet_reader.specs.declared.event.Event.{Event}
use Rattle.packet_reader.specs.declared.mode.Mode.TheVariants.{Replay}
use Rattle.packet_reader.specs.declared.wire_event.WireEvent.{WireEvent}
use Rattle.packet_reader.specs.declared.wire_event.WireEvent.TheVariants.{Plain, Wire, Tunnel}
use Rattle.packet_reader.specs.Events.{script_row}
use Rattle.packet_reader.specs.Meaning.{Meaning}
use Rattle.packet_reader.specs.Mode.{is_sync}

-- a text that writes no octets is no number
abbrev pub read_as_number : Result (List ℕ) HexRefused → Result (List ℕ) Why
read_as_number (Ok octets) = Ok octets
read_as_number (Err refused) = Err why.Number

-- the octets that a field writes in hexadecimal
abbrev pub hex_field : Field → Result (List ℕ) Why
hex_field text = read_as_number (hex_in text)

-- an ingress and a packet
abbrev pub wire_fields : ℕ → Row → Result (Option WireEvent) Why
wire_fields nodes row =
    and_then (node_field nodes (field_at row 1)) (λ ingress.
    and_then (hex_field (field_at row 2)) (λ octets.
    Ok (Some (Wire ingress octets))))

-- a G-PDU
abbrev pub tunnel_fields : Row → Result (Option WireEvent) Why
tunnel_fields row = and_then (hex_field (field_at row 1)) (λ octets. Ok (Some (Tunnel octets)))

-- what a row of a replay says here
abbrev pub plain : Result (Option Event) Why → Result (Option WireEvent) Why
plain (Ok (Some event)) = Ok (Some (Plain event))
plain (Ok None) = Ok None
plain (Err reason) = Err reason

-- what a row says by itself: an event, or by None that the script ends
unfoldable pub wire_row : Size → Row → Result (Option WireEvent) Why
wire_row shape row =
    if is_kind (codes "wire") row then with_fields 3 row (wire_fields shape.nodes row)
    else if is_kind (codes "tunnel") row then with_fields 2 row (tunnel_fields row)
    else plain (script_row Replay shape row)

abbrev pub is_plain_sync : WireEvent → Bool
is_plain_sync (Plain event) = is_sync event
is_plain_sync _ = false

-- so the rows of such a script, in a cluster of this shape, say its events
abbrev pub wire_events_in : Size → Meaning WireEvent
wire_events_in shape = record { says = wire_row shape; is_sync = is_plain_sync; in_phases = false }
