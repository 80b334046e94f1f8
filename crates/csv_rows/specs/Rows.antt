-- The rows of a text of bytes.
pub use Rattle.csv.specs.Records.{fields_of}
use Rattle.std.specs.Prelude.{◌≡◌, ℕ, Bool, true, false, List, [], ◌∷◌, slice_index_or}
use Rattle.csv.specs.Reading.{default_config, records, strip_bom}

-- a field is its bytes, without the quotes around it
abbrev pub Field : Type 0
Field = List ℕ

-- an input row is its fields
abbrev pub Row : Type 0
Row = List Field

-- the rows of the bytes, as csv defines them
unfoldable pub rows : List ℕ → List Row
rows bytes = records default_config (strip_bom bytes)

-- the field of this number, from 0; past the row's end it is empty
abbrev pub field_at : Row → ℕ → Field
field_at row number = slice_index_or row number []

-- whether there was a row left, and what it leaves
abbrev pub TakesRow : Bool → List Row → Row → List Row → Type 0
TakesRow true before row after = before ≡ row ∷ after
TakesRow false before row after = before ≡ []
