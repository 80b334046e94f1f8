-- What the fields of a row say: a value, or why there is none.
use Rattle.std.specs.Prelude.{ℕ, ◌+◌, ◌==◌, nat_lt, if◌then◌else◌, Bool, List, length, Result, Ok, Err}
use Rattle.std.specs.Option.{ok_or}
use Rattle.std.specs.Str.{bytes_eq}
use Rattle.flow_types.specs.Text.{address_value, number_value}
use Rattle.flow_types.specs.declared.key.FlowKey.{FlowKey}
use Rattle.flow_types.specs.declared.record.Flow.{Flow}
use Rattle.flow_types.specs.declared.why.Why.{Why}
use Rattle.flow_types.specs.declared.why.Why.TheVariants as why
use Rattle.csv_rows.specs.Rows.{Field, Row, field_at}

-- whether a row's first field is the name of this kind
abbrev pub is_kind : List ℕ → Row → Bool
is_kind kind row = bytes_eq (field_at row 0) kind

-- what is read next from what was read, or why nothing was
abbrev pub and_then : {A B : Type 0} → Result A Why → (A → Result B Why) → Result B Why
and_then (Ok a) next = next a
and_then (Err reason) next = Err reason

-- what the fields of a row say, where it has as many as it should
abbrev pub with_fields : {A : Type 0} → ℕ → Row → Result A Why → Result A Why
with_fields count row reading = if length row == count then reading else Err why.Fields

-- a number of at most `max`
abbrev pub number_field : ℕ → Field → Result ℕ Why
number_field max text = ok_or (number_value max text) why.Number

-- a dotted address
abbrev pub address_field : Field → Result ℕ Why
address_field text = ok_or (address_value text) why.Address

-- one of the cluster's nodes
abbrev pub one_of : ℕ → ℕ → Result ℕ Why
one_of nodes node = if nat_lt node nodes then Ok node else Err why.Node

-- one of the cluster's nodes, as a number of one octet
abbrev pub node_field : ℕ → Field → Result ℕ Why
node_field nodes text = and_then (number_field 255 text) (one_of nodes)

-- the key that five fields write, from the one of this number on
unfoldable pub key_at : ℕ → Row → Result FlowKey Why
key_at first row =
    and_then (address_field (field_at row first)) (λ source.
    and_then (address_field (field_at row (first + 1))) (λ destination.
    and_then (number_field 65535 (field_at row (first + 2))) (λ source_port.
    and_then (number_field 65535 (field_at row (first + 3))) (λ destination_port.
    and_then (number_field 255 (field_at row (first + 4))) (λ protocol.
    Ok (record {
      source = source;
      destination = destination;
      source_port = source_port;
      destination_port = destination_port;
      protocol = protocol;
    }))))))

-- the flow that a row's fields write: key, node, TEID and base address, after the row's kind
unfoldable pub flow_of : ℕ → Row → Result Flow Why
flow_of nodes row =
    and_then (key_at 1 row) (λ key.
    and_then (node_field nodes (field_at row 6)) (λ node.
    and_then (number_field 4294967295 (field_at row 7)) (λ teid.
    and_then (address_field (field_at row 8)) (λ base.
    Ok (record { key = key; node = node; info = record { teid = teid; base = base } })))))
