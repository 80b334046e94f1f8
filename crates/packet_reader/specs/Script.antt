-- The rows after `begin`, as the events of a script.
use Rattle.std.specs.Prelude.{ℕ, ◌+◌, Bool, false, if◌then◌else◌, List, [], ◌∷◌, ◌++◌, Option, Some, None, is_none, option_to_list, Result, Ok, Err, Vec}
use Rattle.std.specs.Global.{Global}
use Rattle.flow_types.specs.declared.why.BadRow.{BadRow}
use Rattle.flow_types.specs.declared.why.Why.{Why}
use Rattle.flow_types.specs.declared.why.Why.TheVariants as why
use Rattle.csv_rows.specs.Rows.{Row}
use Rattle.row_fields.specs.Fields.{and_then}
use Rattle.row_fields.specs.Refused.{bad_row}
use Rattle.packet_reader.specs.Meaning.{Meaning, is_one_too_many}

-- what was read so far: the events, and whether `end` came
pub record Progress (E : Type 0) : Type 0 where
  pub events : List E
  pub ended : Bool

-- nothing yet
abbrev pub start : {E : Type 0} → Progress E
start = record { events = []; ended = false }

-- what was read, with what one more row says
abbrev pub with_row : {E : Type 0} → Progress E → Option E → Progress E
with_row so_far said = record { events = so_far.events ++ option_to_list said; ended = is_none said }

-- what was read after one more row, where that isn't bad
abbrev pub with_row_said : {E : Type 0} → Progress E → Result (Option E) Why → Progress E
with_row_said so_far (Ok said) = with_row so_far said
with_row_said so_far (Err reason) = so_far

-- what the rows say at their end, whose number this is
abbrev pub script_ends : {E : Type 0} → Progress E → ℕ → Result (List E) BadRow
script_ends so_far number = if so_far.ended then Ok so_far.events else Err (bad_row number why.NoEnd)

-- a bad row is the answer, and any other leaves the answer to the rows after it
abbrev pub refused_or : {E : Type 0} → (number : ℕ) → (said : Result (Option E) Why) → (later : Result (List E) BadRow) → Result (List E) BadRow
refused_or number (Ok said) later = later
refused_or number (Err reason) later = Err (bad_row number reason)

-- what an event says after those before it
abbrev pub counted : {E : Type 0} → Meaning E → List E → Option E → Result (Option E) Why
counted meaning events None = Ok None
counted meaning events (Some event) = if is_one_too_many meaning events event then Err why.TooManyPhases else Ok (Some event)

-- what a row says after those before it: no row may follow the `end`
abbrev pub row_after : {E : Type 0} → Meaning E → Progress E → Row → Result (Option E) Why
row_after meaning so_far row = if so_far.ended then Err why.AfterEnd else and_then (meaning.says row) (counted meaning so_far.events)

-- what the rows say from the row of this number on
unfoldable pub script_from : {E : Type 0} → Meaning E → List Row → Progress E → ℕ → Result (List E) BadRow
script_from meaning [] so_far number = script_ends so_far number
script_from meaning (row ∷ rest) so_far number =
    let said = row_after meaning so_far row in
    refused_or number said (script_from meaning rest (with_row_said so_far said) (number + 1))

-- the script that the rows after `begin` say, or the first of them that is bad; `begin` stands in the row of this number
unfoldable pub script_of : {E : Type 0} → Meaning E → ℕ → List Row → Result (List E) BadRow
script_of meaning begin_row rest = script_from meaning rest start (begin_row + 1)

-- the events that a vector has
abbrev pub events_of : {E : Type 0} → Vec E Global → List E
events_of events = events.items
