-- What was read of fields is in its range.
use Rattle.std.proofs.Common.{◌≡◌, ◌+◌, ◌<◌, ◌≤◌, ◌^◌, ℕ, Bool, true, false, Option, Some, None, Result, Ok, Err, refl, arith}
use Rattle.std.specs.Prelude.{if◌then◌else◌, nat_lt}
use Rattle.std.specs.Option.{ok_or}
use Rattle.std.proofs.lemmas.Bool.{ltb-true}
use Rattle.flow_types.specs.Text.{address_value, number_value}
use Rattle.flow_types.specs.declared.key.FlowKey.{FlowKey}
use Rattle.flow_types.specs.declared.record.Flow.{Flow}
use Rattle.flow_types.specs.declared.why.Why.{Why}
use Rattle.flow_types.specs.declared.why.Why.TheVariants as why
use Rattle.flow_types.proofs.Addresses.{read_has_32_bits}
use Rattle.flow_types.proofs.Numerals.{read_is_decimal}
use Rattle.flow_types.specs.Key.{IsKeyValue}
use Rattle.csv_rows.specs.Rows.{Field, Row, field_at}
use Rattle.row_fields.specs.Fields.{address_field, and_then, flow_of, key_at, node_field, number_field, one_of}
use Rattle.row_fields.specs.Ranges.{IsFlowValue, ReadingsAreInRange}

ok_or-some : (o : Option ℕ) (reason : Why) (n : ℕ) → ok_or o reason ≡ Ok n → o ≡ Some n
ok_or-some None reason n e = cc e
ok_or-some (Some m) reason n e = cc e

pub number_most : (max : ℕ) (text : Field) (n : ℕ) → number_field max text ≡ Ok n → n ≤ max
number_most max text n e = (read_is_decimal max n text (ok_or-some (number_value max text) why.Number n e)).bounded

address_bits : (text : Field) (n : ℕ) → address_field text ≡ Ok n → n < 2 ^ 32
address_bits text n e = read_has_32_bits n text (ok_or-some (address_value text) why.Address n e)

-- a node that was read is one of the nodes
pub below_nodes : (nodes node : ℕ) (o : Result ℕ Why) → and_then o (one_of nodes) ≡ Ok node → node < nodes
below_nodes nodes node (Err reason) e = cc e
below_nodes nodes node (Ok n) e = by (nat_lt n nodes) refl e
  where
    by : (b : Bool) → nat_lt n nodes ≡ b → ◌≡◌ {A = Result ℕ Why} (if b then Ok n else Err why.Node) (Ok node) → node < nodes
    by true below e = let same : n ≡ node = cc e in rw (← same) (ltb-true n nodes below)
    by false below e = cc e

-- the readings that a key was made of
key-parts : (s d sp dp p : Result ℕ Why) (key : FlowKey)
    → and_then s (λ source. and_then d (λ destination. and_then sp (λ source_port. and_then dp (λ destination_port. and_then p (λ protocol.
    Ok (record { source = source; destination = destination; source_port = source_port; destination_port = destination_port; protocol = protocol })))))) ≡ Ok key
    → (s ≡ Ok key.source) × (d ≡ Ok key.destination) × (sp ≡ Ok key.source_port) × (dp ≡ Ok key.destination_port) × (p ≡ Ok key.protocol)
key-parts (Err r) d sp dp p key e = cc e
key-parts (Ok a) (Err r) sp dp p key e = cc e
key-parts (Ok a) (Ok b) (Err r) dp p key e = cc e
key-parts (Ok a) (Ok b) (Ok c) (Err r) p key e = cc e
key-parts (Ok a) (Ok b) (Ok c) (Ok d) (Err r) key e = cc e
key-parts (Ok a) (Ok b) (Ok c) (Ok d) (Ok f) key e =
    let made : key ≡ record { source = a; destination = b; source_port = c; destination_port = d; protocol = f } = cc e in
    rw made (refl, refl, refl, refl, refl)

pub key_value : (first : ℕ) (row : Row) (key : FlowKey) → key_at first row ≡ Ok key → IsKeyValue key
unfolding key_at
key_value first row key e =
    let parts = key-parts (address_field (field_at row first)) (address_field (field_at row (first + 1))) (number_field 65535 (field_at row (first + 2)))
    (number_field 65535 (field_at row (first + 3))) (number_field 255 (field_at row (first + 4))) key e in
    let source_port = number_most 65535 (field_at row (first + 2)) key.source_port parts.2 in
    let destination_port = number_most 65535 (field_at row (first + 3)) key.destination_port parts.3 in
    let protocol = number_most 255 (field_at row (first + 4)) key.protocol parts.4 in
    record {
      source = address_bits (field_at row first) key.source parts.0;
      destination = address_bits (field_at row (first + 1)) key.destination parts.1;
      source_port = omega arith;
      destination_port = omega arith;
      protocol = omega arith;
    }

flow-parts : (k : Result FlowKey Why) (n t b : Result ℕ Why) (flow : Flow)
    → and_then k (λ key. and_then n (λ node. and_then t (λ teid. and_then b (λ base.
    Ok (record { key = key; node = node; info = record { teid = teid; base = base } }))))) ≡ Ok flow
    → (k ≡ Ok flow.key) × (n ≡ Ok flow.node) × (t ≡ Ok flow.info.teid) × (b ≡ Ok flow.info.base)
flow-parts (Err r) n t b flow e = cc e
flow-parts (Ok k) (Err r) t b flow e = cc e
flow-parts (Ok k) (Ok n) (Err r) b flow e = cc e
flow-parts (Ok k) (Ok n) (Ok t) (Err r) flow e = cc e
flow-parts (Ok k) (Ok n) (Ok t) (Ok b) flow e =
    let made : flow ≡ record { key = k; node = n; info = record { teid = t; base = b } } = cc e in
    rw made (refl, refl, refl, refl)

pub flow_value : (nodes : ℕ) (row : Row) (flow : Flow) → flow_of nodes row ≡ Ok flow → IsFlowValue nodes flow
unfolding flow_of
flow_value nodes row flow e =
    let parts = flow-parts (key_at 1 row) (node_field nodes (field_at row 6)) (number_field 4294967295 (field_at row 7)) (address_field (field_at row 8)) flow e in
    let teid = number_most 4294967295 (field_at row 7) flow.info.teid parts.2 in
    record {
      key = key_value 1 row flow.key parts.0;
      node = below_nodes nodes flow.node (number_field 255 (field_at row 6)) parts.1;
      record_value = record { teid = omega arith; base = address_bits (field_at row 8) flow.info.base parts.3 };
    }

pub readings_are_in_range : ReadingsAreInRange
readings_are_in_range = record {
  number = number_most;
  node = λ nodes text value e. below_nodes nodes value (number_field 255 text) e;
  key = key_value;
  flow = flow_value;
}
