-- The kinds of rows after `begin`.
use Rattle.std.specs.Prelude.{ℕ, if◌then◌else◌, codes, Result, Ok, Err}
use Rattle.flow_types.specs.declared.why.Why.{Why}
use Rattle.flow_types.specs.declared.why.Why.TheVariants as why
use Rattle.csv_rows.specs.Rows.{Row}
use Rattle.row_fields.specs.Fields.{is_kind}
use Rattle.packet_reader.specs.declared.event.Event.{Event}
use Rattle.packet_reader.specs.declared.event.Event.TheVariants as event
use Rattle.packet_reader.specs.declared.kind.Kind.{Kind}
use Rattle.packet_reader.specs.declared.kind.Kind.TheVariants.{Set, Del, Packet, Carry, Sync, End}

-- the kind that a row's first field names
unfoldable pub kind_of : Row → Result Kind Why
kind_of row =
    if is_kind (codes "set") row then Ok Set
    else if is_kind (codes "del") row then Ok Del
    else if is_kind (codes "packet") row then Ok Packet
    else if is_kind (codes "carry") row then Ok Carry
    else if is_kind (codes "sync") row then Ok Sync
    else if is_kind (codes "end") row then Ok End
    else Err why.Kind

-- how many fields a row of this kind has, its name among them
abbrev pub width : Kind → ℕ
width Set = 9
width Del = 6
width Packet = 7
width Carry = 5
width Sync = 1
width End = 1

-- the kind of row that says an event
abbrev pub kind_of_event : Event → Kind
kind_of_event (event.Set flow) = Set
kind_of_event (event.Del key) = Del
kind_of_event (event.Packet ingress key) = Packet
kind_of_event (event.Carry node owner turn part) = Carry
kind_of_event event.Sync = Sync
