-- What an opening that rows say is fit for.
use Rattle.std.specs.Prelude.{◌≡◌, ◌+◌, ◌<◌, ◌≤◌, List, length, All}
use Rattle.flow_types.specs.Map.{AreDistinct}
use Rattle.flow_types.specs.declared.record.Flow.{Flow}
use Rattle.csv_rows.specs.Rows.{Row}
use Rattle.row_fields.specs.Ranges.{IsFlowValue}
use Rattle.flow_reader.specs.declared.opening.Opening.{Opening}

-- no two flows have one key, the numbers of each are in range and its node is one of the cluster's, and there is a row for the
-- shape, for each flow and for `begin`
pub record IsFit (all : List Row) (opening : Opening) : Type 0 where
  pub distinct : AreDistinct opening.flows
  pub handled : All (λ (flow : Flow). flow.node < opening.shape.nodes) opening.flows
  pub values : All (IsFlowValue opening.shape.nodes) opening.flows
  pub begin_row : opening.begin_row ≡ length opening.flows + 2
  pub within : opening.begin_row ≤ length all
