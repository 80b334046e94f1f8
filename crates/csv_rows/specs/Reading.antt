-- The rows that a reader has left.
use Rattle.std.specs.Prelude.{◌≡◌, ◌+◌, ℕ, false, true, List, [], length, Some, unwrap_or}
use Rattle.std.specs.Borrow.{Bor}
use Rattle.csv.specs.Reading.{Ready, default_config, has_failed, is_flexible, reader_config, reader_state, reader_trim, records_from, source_of}
use Rattle.csv.specs.declared.parser.State.{State}
use Rattle.csv.specs.declared.reader.Trim.TheVariants as trim
use Rattle.csv_rows.specs.declared.reader.RowReader.{RowReader}
use Rattle.csv_rows.specs.Rows.{Row}

-- the rows of bytes that are read on from a state: no row is shorter than a byte, but for one that has begun
abbrev pub rows_from : State → List ℕ → List Row
rows_from state bytes = records_from default_config (length bytes + 2) state bytes

-- the bytes that a reader has left
abbrev pub bytes_left : RowReader → List ℕ
bytes_left r = unwrap_or (source_of (λ (s : Bor (List ℕ)). Some s.now) r.reader) []

-- the rows that a reader has left
unfoldable pub rows_left : RowReader → List Row
rows_left r = rows_from (reader_state r.reader) (bytes_left r)

-- the reader takes rows of any length and met no error
pub record IsReading (r : RowReader) : Type 0 where
  pub config : reader_config r.reader ≡ default_config
  pub trim : reader_trim r.reader ≡ trim.None
  pub ready : Ready r.reader
  pub flexible : is_flexible r.reader ≡ true
  pub going : has_failed r.reader ≡ false
