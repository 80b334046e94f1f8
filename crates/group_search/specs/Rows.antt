-- Fallback rows: the keys and nodes of a group that no indexes serve.
use Rattle.std.specs.Prelude.{ℕ, ◌<◌, ◌≤◌, List, [], ◌∷◌, length, map, if◌then◌else◌, nat_lt, IsPermutation}
use Rattle.std.specs.List.{AllAdjacentBelow}
use Rattle.flow_types.specs.declared.key.FlowKey.{FlowKey}
use Rattle.flow_types.specs.Key.{number}
use Rattle.group_search.specs.declared.entry.Entry.{Entry}
use Rattle.group_search.specs.declared.rows.Row.{Row}
use Rattle.group_search.specs.Limits.{fewest_rows, most_rows}

abbrev pub key_number : Row → ℕ
key_number row = number row.key

-- each key is below the next
abbrev pub IsRising : List Row → Type 0
IsRising rows = AllAdjacentBelow (λ (a : Row) (b : Row). key_number a < key_number b) rows (length rows)

-- what every `Rows` is: 2 to 64 rows with strictly rising keys
pub record AreRows (rows : List Row) : Type 0 where
  pub enough : fewest_rows ≤ length rows
  pub few : length rows ≤ most_rows
  pub rising : IsRising rows

abbrev pub entry_key : Entry → FlowKey
entry_key e = e.key

abbrev pub row_of : Entry → Row
row_of e = record { key = e.key; node = e.node }

-- the rows with one more, which goes before the first row whose key isn't below its own
unfoldable pub put_row : Row → List Row → List Row
put_row new [] = new ∷ []
put_row new (row ∷ rows) = if nat_lt (key_number row) (key_number new) then row ∷ put_row new rows else new ∷ row ∷ rows

-- the entries' keys and nodes, by rising key
unfoldable pub rows_of : List Entry → List Row
rows_of [] = []
rows_of (e ∷ entries) = put_row (row_of e) (rows_of entries)

-- these are the entries' keys and nodes, by rising key
pub record AreRowsOf (entries : List Entry) (rows : List Row) : Type 0 where
  pub permuted : IsPermutation (map row_of entries) rows
  pub rising : IsRising rows
