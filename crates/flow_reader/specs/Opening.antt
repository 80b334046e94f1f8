-- The rows up to `begin`: the shape of a cluster, and its flows.
use Rattle.std.specs.Prelude.{ℕ, ◌+◌, ◌&&◌, nat_le, Bool, if◌then◌else◌, List, [], ◌∷◌, ◌++◌, map, Option, Some, None, Result, Ok, Err, codes}
use Rattle.std.specs.List.{list_any}
use Rattle.flow_types.specs.Key.{same_key}
use Rattle.flow_types.specs.Size.{Size, fewest_blocks, fewest_nodes, most_blocks, most_nodes}
use Rattle.flow_types.specs.declared.key.FlowKey.{FlowKey}
use Rattle.flow_types.specs.declared.record.Flow.{Flow}
use Rattle.flow_types.specs.declared.why.BadRow.{BadRow}
use Rattle.flow_types.specs.declared.why.Why.{Why}
use Rattle.flow_types.specs.declared.why.Why.TheVariants as why
use Rattle.csv_rows.specs.Rows.{Row, field_at}
use Rattle.row_fields.specs.Fields.{and_then, flow_of, is_kind, number_field, with_fields}
use Rattle.row_fields.specs.Refused.{bad_row}
use Rattle.flow_reader.specs.declared.opening.Opening.{Opening}

-- the shape of these numbers of nodes and blocks, where there is one
abbrev pub shape_with : ℕ → ℕ → Result Size Why
shape_with nodes blocks =
    if nat_le fewest_nodes nodes && nat_le nodes most_nodes && nat_le fewest_blocks blocks && nat_le blocks most_blocks
    then Ok (record { nodes = nodes; blocks = blocks })
    else Err why.Number

-- what the fields of a `cluster` row say
abbrev pub shape_fields : Row → Result Size Why
shape_fields row =
    and_then (number_field 65535 (field_at row 1)) (λ nodes.
    and_then (number_field 65535 (field_at row 2)) (λ blocks.
    shape_with nodes blocks))

-- what the first row says
unfoldable pub shape_of : Row → Result Size Why
shape_of row = if is_kind (codes "cluster") row then with_fields 3 row (shape_fields row) else Err why.Kind

-- a flow, where there is one
abbrev pub some_flow : Result Flow Why → Result (Option Flow) Why
some_flow (Ok flow) = Ok (Some flow)
some_flow (Err reason) = Err reason

-- what a later row says by itself: a flow, or by None that the flows end
unfoldable pub later_row : ℕ → Row → Result (Option Flow) Why
later_row nodes row =
    if is_kind (codes "flow") row then with_fields 9 row (some_flow (flow_of nodes row))
    else if is_kind (codes "begin") row then with_fields 1 row (Ok None)
    else Err why.Kind

abbrev pub keys_of : List Flow → List FlowKey
keys_of flows = map (λ flow. flow.key) flows

-- whether a flow of this key is among these
abbrev pub has_key : FlowKey → List Flow → Bool
has_key key flows = list_any (same_key key) (keys_of flows)

-- what a row adds to the flows before it
abbrev pub adds : List Flow → Option Flow → Result (Option Flow) Why
adds flows None = Ok None
adds flows (Some flow) = if has_key flow.key flows then Err why.Duplicate else Ok (Some flow)

-- what a later row says after these flows
abbrev pub row_after_flows : ℕ → List Flow → Row → Result (Option Flow) Why
row_after_flows nodes flows row = and_then (later_row nodes row) (adds flows)

-- the flows with the one that a row says, where it says one
abbrev pub with_said : List Flow → Result (Option Flow) Why → List Flow
with_said flows (Ok (Some flow)) = flows ++ flow ∷ []
with_said flows (Ok None) = flows
with_said flows (Err reason) = flows

-- a row that says a flow leaves the answer to the rows after it; `begin` ends the opening, and a bad row is the answer
abbrev pub ends_or : Size → List Flow → (number : ℕ) → (said : Result (Option Flow) Why) → (later : Result Opening BadRow) → Result Opening BadRow
ends_or shape flows number (Ok (Some flow)) later = later
ends_or shape flows number (Ok None) later = Ok (record { shape = shape; flows = flows; begin_row = number })
ends_or shape flows number (Err reason) later = Err (bad_row number reason)

-- what the rows say from the row of this number on, after these flows
unfoldable pub opening_from : Size → List Row → List Flow → ℕ → Result Opening BadRow
opening_from shape [] flows number = Err (bad_row number why.NoBegin)
opening_from shape (row ∷ rest) flows number =
    let said = row_after_flows shape.nodes flows row in
    ends_or shape flows number said (opening_from shape rest (with_said flows said) (number + 1))

-- what the rows say, where the first says this of the shape and these come after it
abbrev pub opening_after : List Row → Result Size Why → Result Opening BadRow
opening_after rest (Ok shape) = opening_from shape rest [] 2
opening_after rest (Err reason) = Err (bad_row 1 reason)

-- the opening that the rows say, or the first bad row up to `begin`
unfoldable pub opening_of : List Row → Result Opening BadRow
opening_of [] = Err (bad_row 1 why.NoBegin)
opening_of (row ∷ rest) = opening_after rest (shape_of row)
