-- In which ranges stands what was read of fields.
use Rattle.std.specs.Prelude.{◌≡◌, ◌<◌, ◌≤◌, ℕ, Ok}
use Rattle.flow_types.specs.declared.key.FlowKey.{FlowKey}
use Rattle.flow_types.specs.declared.record.Flow.{Flow}
use Rattle.flow_types.specs.Key.{IsKeyValue}
use Rattle.flow_types.specs.Map.{IsRecordValue}
use Rattle.csv_rows.specs.Rows.{Field, Row}
use Rattle.row_fields.specs.Fields.{address_field, flow_of, key_at, node_field, number_field}

-- the numbers of a flow in a cluster: those of its key and its record have the bits of their types, and its node is one of the
-- cluster's
pub record IsFlowValue (nodes : ℕ) (flow : Flow) : Type 0 where
  pub key : IsKeyValue flow.key
  pub node : flow.node < nodes
  pub record_value : IsRecordValue flow.info

-- what is read of fields is in its range
pub record ReadingsAreInRange : Type 0 where
  pub number : (max : ℕ) (text : Field) (value : ℕ) → number_field max text ≡ Ok value → value ≤ max
  pub node : (nodes : ℕ) (text : Field) (value : ℕ) → node_field nodes text ≡ Ok value → value < nodes
  pub key : (first : ℕ) (row : Row) (value : FlowKey) → key_at first row ≡ Ok value → IsKeyValue value
  pub flow : (nodes : ℕ) (row : Row) (value : Flow) → flow_of nodes row ≡ Ok value → IsFlowValue nodes value
