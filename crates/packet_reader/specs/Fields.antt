-- What the fields of each kind of row say.
use Rattle.std.specs.Prelude.{ℕ, nat_lt, if◌then◌else◌, codes, Option, Some, None, Result, Ok, Err}
use Rattle.std.specs.Str.{bytes_eq}
use Rattle.flow_types.specs.declared.why.Why.{Why}
use Rattle.flow_types.specs.declared.why.Why.TheVariants as why
use Rattle.flow_types.specs.Limits.{most_turns}
use Rattle.csv_rows.specs.Rows.{Field, Row, field_at}
use Rattle.row_fields.specs.Fields.{and_then, flow_of, key_at, node_field, number_field}
use Rattle.packet_reader.specs.declared.event.Event.{Event}
use Rattle.packet_reader.specs.declared.event.Event.TheVariants.{Set, Del, Packet, Carry, Sync}
use Rattle.packet_reader.specs.declared.event.Part.{Part}
use Rattle.packet_reader.specs.declared.event.Part.TheVariants.{Table, Fib}
use Rattle.packet_reader.specs.declared.kind.Kind.{Kind}
use Rattle.packet_reader.specs.declared.kind.Kind.TheVariants as kind

-- a flow
abbrev pub set_fields : ℕ → Row → Result Event Why
set_fields nodes row = and_then (flow_of nodes row) (λ flow. Ok (Set flow))

-- a key
abbrev pub del_fields : Row → Result Event Why
del_fields row = and_then (key_at 1 row) (λ key. Ok (Del key))

-- an ingress and a key
abbrev pub packet_fields : ℕ → Row → Result Event Why
packet_fields nodes row =
    and_then (node_field nodes (field_at row 1)) (λ ingress.
    and_then (key_at 2 row) (λ key.
    Ok (Packet ingress key)))

-- a turn: turns are counted from 1
abbrev pub one_turn : ℕ → Result ℕ Why
one_turn turn = if nat_lt 0 turn then Ok turn else Err why.Number

abbrev pub turn_field : Field → Result ℕ Why
turn_field text = and_then (number_field most_turns text) one_turn

-- which of a turn's two messages
abbrev pub part_field : Field → Result Part Why
part_field text =
    if bytes_eq text (codes "table") then Ok Table
    else if bytes_eq text (codes "fib") then Ok Fib
    else Err why.Kind

-- a node, an owner, one of the owner's turns, and one of the turn's two messages
abbrev pub carry_fields : ℕ → Row → Result Event Why
carry_fields nodes row =
    and_then (node_field nodes (field_at row 1)) (λ node.
    and_then (node_field nodes (field_at row 2)) (λ owner.
    and_then (turn_field (field_at row 3)) (λ turn.
    and_then (part_field (field_at row 4)) (λ part.
    Ok (Carry node owner turn part)))))

-- an event, where there is one
abbrev pub some_event : Result Event Why → Result (Option Event) Why
some_event (Ok said) = Ok (Some said)
some_event (Err reason) = Err reason

-- what the fields of a row of this kind say, in a cluster with this number of nodes: an event, or by None that the script ends
abbrev pub fields_say : Kind → ℕ → Row → Result (Option Event) Why
fields_say kind.Set nodes row = some_event (set_fields nodes row)
fields_say kind.Del nodes row = some_event (del_fields row)
fields_say kind.Packet nodes row = some_event (packet_fields nodes row)
fields_say kind.Carry nodes row = some_event (carry_fields nodes row)
fields_say kind.Sync nodes row = Ok (Some Sync)
fields_say kind.End nodes row = Ok None
