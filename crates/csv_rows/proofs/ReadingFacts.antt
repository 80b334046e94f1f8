-- What one read does to the rows that are left.
use Rattle.std.proofs.Common.{◌≡◌, ◌≤◌, ◌+◌, ℕ, zero, suc, Bool, true, false, List, [], ◌∷◌, length, Option, Some, None, Bor, refl, sym, ap, arith, ◌∙◌}
use Rattle.std.specs.Prelude.{IsTrue, unwrap_or, if◌then◌else◌, not, ◌&&◌, ◌==◌}
use Rattle.std.proofs.lemmas.Bool.{true≢false}
use Rattle.csv.specs.Records.{field_at as csv_field}
use Rattle.csv.specs.Machine.{Read, next_record}
use Rattle.csv.specs.Reading.{ExplainsRead, NextIs, ReadRecord, stops_reader, ReadsNext, default_config, has_failed, source_of, pending_of, records_from, records_next, strip_bom}
use Rattle.csv.specs.declared.parser.State.{State}
use Rattle.csv.specs.declared.parser.State.TheVariants as st
use Rattle.csv.specs.declared.error.ErrorKind.{ErrorKind}
use Rattle.csv.specs.declared.error.ErrorKind.TheVariants as kind
use Rattle.csv_rows.specs.declared.reader.RowReader.{RowReader}
use Rattle.csv_rows.specs.Reading.{IsReading, rows_from, rows_left, bytes_left}
use Rattle.csv_rows.specs.Rows.{Row, TakesRow, field_at, rows}
use Rattle.csv_rows.proofs.RowFacts.{begun-small, length-records_from, length-strip_bom, records_from-fuel, shrinks}

-- the rows of all bytes are those from the start of a row
pub rows_from-start : (bytes : List ℕ) → rows_from st.StartRecord (strip_bom bytes) ≡ rows bytes
unfolding rows
rows_from-start bytes = records_from-fuel default_config (length (strip_bom bytes) + 2) (length (strip_bom bytes) + 1) st.StartRecord (strip_bom bytes) (omega arith) (omega arith)

-- each row has at least one byte
pub length-rows : (bytes : List ℕ) → length (rows bytes) ≤ length bytes
unfolding rows
length-rows bytes =
    let few = length-records_from default_config (length (strip_bom bytes) + 1) st.StartRecord (strip_bom bytes) in
    let short = length-strip_bom bytes in
    omega arith

-- a read that found no record, and one that found one
rows_from-none : (s : State) (xs : List ℕ) → next_record default_config s [] [] xs ≡ None → rows_from s xs ≡ []
unfolding records_from
rows_from-none s xs e =
    let small = begun-small s in
    records_from-fuel default_config (length xs + 2) (suc (length xs + 1)) s xs (omega arith) (omega arith)
    ∙ ap (records_next (records_from default_config (length xs + 1))) e

rows_from-some : (s : State) (xs : List ℕ) (r : Read) → next_record default_config s [] [] xs ≡ Some r → rows_from s xs ≡ r.0 ∷ rows_from r.1 r.2
unfolding records_from
rows_from-some s xs r e =
    let small = begun-small s in
    let less = shrinks default_config s [] [] xs r e in
    let later = begun-small r.1 in
    records_from-fuel default_config (length xs + 2) (suc (length xs + 1)) s xs (omega arith) (omega arith)
    ∙ ap (records_next (records_from default_config (length xs + 1))) e
    ∙ ap (λ more. r.0 ∷ more) (records_from-fuel default_config (length xs + 1) (length r.2 + 2) r.1 r.2 (omega arith) (omega arith))

takes-next : (s s2 : State) (xs ys : List ℕ) (found : Bool) (fields : Row) (o : Option Read) → next_record default_config s [] [] xs ≡ o
    → NextIs o found fields s2 ys → TakesRow found (rows_from s xs) fields (rows_from s2 ys)
takes-next s s2 xs ys true fields None e n = cc n
takes-next s s2 xs ys false fields None e n = rows_from-none s xs e
takes-next s s2 xs ys true fields (Some r) e n = rw (n.1, n.2, n.3) (rows_from-some s xs r e)
takes-next s s2 xs ys false fields (Some r) e n = cc n.0

-- a read takes the first of the rows that are left
pub takes-read : (s s2 : State) (xs : List ℕ) (after : Option (List ℕ)) (found : Bool) (fields : Row)
    → ReadsNext default_config s (Some xs) after found fields s2 → TakesRow found (rows_from s xs) fields (rows_from s2 (unwrap_or after []))
takes-read s s2 xs None found fields h = absurd h
takes-read s s2 xs (Some ys) found fields h = takes-next s s2 xs ys found fields _ refl h

-- the bytes under a reader that met no error are known
abbrev under : Bor (List ℕ) → Option (List ℕ)
under s = Some s.now

source-known : (r : RowReader) → has_failed r.reader ≡ false → source_of under r.reader ≡ Some (bytes_left r)
source-known r going = rw going (by _ _ (not r.reader.bom_checked && (r.reader.at == 0) && (r.reader.filled == 0)))
  where
    by : (x y : List ℕ) (b : Bool) → (if b then Some x else Some y) ≡ Some (unwrap_or (if b then Some x else Some y) [])
    by x y true = refl
    by x y false = refl

-- the same, of the reader
pub takes-row : (old new : RowReader) (found : Bool) (fields : Row) → IsReading old
    → ReadRecord under old.reader new.reader found fields → TakesRow found (rows_left old) fields (rows_left new)
unfolding rows_left
takes-row old new found fields reading read =
    let next = rw (reading.config, source-known old reading.going) at read.0 in
    rw read.1 (takes-read old.reader.state new.reader.state (bytes_left old) (pending_of (under new.reader.rdr) new.reader) found fields next)

-- what is left of the causes of an error where rows have any length
pub explained-stops : (old new : RowReader) (k : ErrorKind) → IsReading old → ExplainsRead under old.reader new.reader false k → IsTrue (stops_reader k)
explained-stops old new (kind.Io e) reading why = refl
explained-stops old new kind.OutOfMemory reading why = refl
explained-stops old new (kind.UnequalLengths pos expected len) reading why = absurd (true≢false (sym reading.flexible ∙ why.0))
explained-stops old new (kind.Utf8 pos err) reading why = absurd (true≢false (sym why.0))
explained-stops old new (kind.Serialize text) reading why = absurd why
explained-stops old new (kind.Deserialize pos err) reading why = absurd why

-- past a row's last field
pub field_at-none : (row : Row) (place : ℕ) → csv_field row place ≡ None → field_at row place ≡ []
unfolding csv_field
field_at-none [] place e = refl
field_at-none (f ∷ fs) zero e = cc e
field_at-none (f ∷ fs) (suc place) e = field_at-none fs place e
