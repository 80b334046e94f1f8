-- The rows up to `begin` one by one: when they make an opening, and which of them is the first bad one.
use Rattle.std.specs.Prelude.{◌≡◌, ◌⊎◌, ◌↔◌, ◌+◌, List, [], ◌∷◌, ◌++◌, length, map, Some, None, Ok, Err, Contains}
use Rattle.flow_types.specs.Map.{AreDistinct}
use Rattle.flow_types.specs.Size.{Size}
use Rattle.flow_types.specs.declared.record.Flow.{Flow}
use Rattle.flow_types.specs.declared.why.BadRow.{BadRow}
use Rattle.flow_types.specs.declared.why.Why.{Why}
use Rattle.flow_types.specs.declared.why.Why.TheVariants as why
use Rattle.csv_rows.specs.Rows.{Row}
use Rattle.flow_reader.specs.Opening.{keys_of, later_row, opening_of, shape_of}
use Rattle.flow_reader.specs.declared.opening.Opening.{Opening}

-- these rows break no rule: a `cluster` row of this shape, then a row for each of these flows, no two of which have one key
pub record Begins (sound : List Row) (shape : Size) (flows : List Flow) : Type 0 where
  pub first : Row
  pub others : List Row
  pub split : sound ≡ first ∷ others
  pub says_shape : shape_of first ≡ Ok shape
  pub say_flows : map (later_row shape.nodes) others ≡ map (λ flow. Ok (Some flow)) flows
  pub distinct : AreDistinct flows

-- the rows go so up to a `begin` row
pub record IsOpening (all : List Row) (opening : Opening) : Type 0 where
  pub sound : List Row
  pub begin : Row
  pub after : List Row
  pub split : all ≡ sound ++ begin ∷ after
  pub begins : Begins sound opening.shape opening.flows
  pub says_begin : later_row opening.shape.nodes begin ≡ Ok None
  pub number : opening.begin_row ≡ length sound + 1

-- a later row is bad by itself, or writes a key that an earlier flow has
abbrev pub BreaksAfterFlows : Size → List Flow → Row → Why → Type 0
BreaksAfterFlows shape flows row reason =
    (later_row shape.nodes row ≡ Err reason)
    ⊎ ((reason ≡ why.Duplicate) × (flow : Flow) × (later_row shape.nodes row ≡ Ok (Some flow)) × Contains (keys_of flows) flow.key)

-- a row breaks a rule for this reason, and the rows before it break none
abbrev pub Breaks : List Row → Row → Why → Type 0
Breaks [] row reason = shape_of row ≡ Err reason
Breaks (first ∷ others) row reason = (shape : Size) × (flows : List Flow) × Begins (first ∷ others) shape flows × BreaksAfterFlows shape flows row reason

-- so the bad row stands there
pub record IsBadAt (all : List Row) (bad : BadRow) : Type 0 where
  pub sound : List Row
  pub row : Row
  pub after : List Row
  pub split : all ≡ sound ++ row ∷ after
  pub breaks : Breaks sound row bad.why
  pub number : bad.row ≡ length sound + 1

-- no row breaks a rule, and none is `begin`
abbrev pub NeverBegins : List Row → Type 0
NeverBegins [] = Unit {0}
NeverBegins (first ∷ others) = (shape : Size) × (flows : List Flow) × Begins (first ∷ others) shape flows

pub record EndsEarly (all : List Row) (bad : BadRow) : Type 0 where
  pub never_begins : NeverBegins all
  pub reason : bad.why ≡ why.NoBegin
  pub number : bad.row ≡ length all + 1

-- the first bad row up to `begin`, where the `begin` row that is missing counts as one
abbrev pub IsFirstBad : List Row → BadRow → Type 0
IsFirstBad all bad = IsBadAt all bad ⊎ EndsEarly all bad

-- what the rows say is an opening exactly where they make it, and a bad row exactly where it is the first
pub record OpeningLaw (all : List Row) : Type 0 where
  pub made : (opening : Opening) → (opening_of all ≡ Ok opening) ↔ IsOpening all opening
  pub bad : (bad : BadRow) → (opening_of all ≡ Err bad) ↔ IsFirstBad all bad
