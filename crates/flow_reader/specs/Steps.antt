-- What the steps of a reader of an opening answer.
use Rattle.std.specs.Prelude.{◌≡◌, ℕ, Bool, true, false, List, [], ◌∷◌, ◌++◌, Option, Some, None, IfSome, Result, Ok, Err}
use Rattle.flow_types.specs.Size.{Size}
use Rattle.flow_types.specs.declared.record.Flow.{Flow}
use Rattle.flow_types.specs.declared.why.BadRow.{BadRow}
use Rattle.flow_types.specs.declared.why.Why.{Why}
use Rattle.csv_rows.specs.Rows.{Row}
use Rattle.row_fields.specs.Refused.{named_row}
use Rattle.flow_reader.specs.Opening.{opening_from, opening_of}
use Rattle.flow_reader.specs.declared.opening.Opening.{Opening}
use Rattle.row_fields.specs.declared.refused.RowRefused.{RowRefused}

-- the first of the rows says this shape
abbrev pub SaysShape : List Row → List Row → Result Size RowRefused → Type 0
SaysShape all after (Ok shape) = opening_of all ≡ opening_from shape after [] 2
SaysShape all after (Err refused) = IfSome (named_row refused) (λ bad. opening_of all ≡ Err bad)

-- with these flows the row of this number is `begin`
abbrev pub BeginsAt : Size → Result Opening BadRow → List Flow → Result ℕ RowRefused → Type 0
BeginsAt shape said flows (Ok number) = said ≡ Ok (record { shape = shape; flows = flows; begin_row = number })
BeginsAt shape said flows (Err refused) = IfSome (named_row refused) (λ bad. said ≡ Err bad)

-- what the row of this number says was taken in: one more flow, or none where the row is `begin`
abbrev pub TakesIn : ℕ → Result (Option Flow) Why → List Flow → List Flow → Result Bool RowRefused → Type 0
TakesIn number said old new (Ok true) = (flow : Flow) × (said ≡ Ok (Some flow)) × (new ≡ old ++ flow ∷ [])
TakesIn number said old new (Ok false) = (said ≡ Ok None) × (new ≡ old)
TakesIn number said old new (Err refused) = IfSome (named_row refused) (λ bad. (bad.row ≡ number) × (said ≡ Err bad.why))
