-- The canonical record of a group.
use Rattle.std.specs.Prelude.{ℕ, zero, suc, ◌≡◌, ◌<◌, ◌≤◌, ◌+◌, Bool, List, [], ◌∷◌, length, Option, Some, None, if◌then◌else◌, nat_le, is_some, slice_index_or}
use Rattle.group_search.specs.declared.entry.Entry.{Entry}
use Rattle.group_search.specs.declared.entry.Pair.{Pair}
use Rattle.group_search.specs.declared.rows.Row.{Row}
use Rattle.group_search.specs.declared.record.GroupRecord.{GroupRecord}
use Rattle.group_search.specs.declared.record.GroupRecord.TheVariants.{Served, Fallback}
use Rattle.group_search.specs.Limits.{most_rows}
use Rattle.group_search.specs.Served.{zero_pair}
use Rattle.group_search.specs.Serving.{IsLeast, IsSeparable, least_of}
use Rattle.group_search.specs.Rows.{AreRowsOf, rows_of}

-- one pair before the others, where all are there
abbrev pub prepend : Option Pair → Option (List Pair) → Option (List Pair)
prepend None rest = None
prepend (Some pair) None = None
prepend (Some pair) (Some rest) = Some (pair ∷ rest)

-- the least pairs of a number of bits from `bit` on, where each has one
unfoldable pub least_pairs : (count bit : ℕ) → List Entry → Option (List Pair)
least_pairs zero bit entries = Some []
least_pairs (suc count) bit entries = prepend (least_of bit entries) (least_pairs count (bit + 1) entries)

-- whether each bit below `bits` has an index that serves
unfoldable pub is_separable : (bits : ℕ) → List Entry → Bool
is_separable bits entries = is_some (least_pairs bits 0 entries)

-- the rows of a group that no indexes serve, where they are few enough
unfoldable pub fallback : List Entry → Option GroupRecord
fallback entries = if nat_le (length entries) most_rows then Some (Fallback (rows_of entries)) else None

-- the least pairs as a record, or what stands in their place
abbrev pub served_or : Option (List Pair) → Option GroupRecord → Option GroupRecord
served_or None other = other
served_or (Some pairs) other = Some (Served pairs)

-- the group's record; `None` where the entries aren't separable and are too many for rows
unfoldable pub canonical : (bits : ℕ) → List Entry → Option GroupRecord
canonical bits entries = served_or (least_pairs bits 0 entries) (fallback entries)

-- a pair for each bit below `bits`, each the least of its bit
pub record AreLeast (bits : ℕ) (entries : List Entry) (pairs : List Pair) : Type 0 where
  pub one_each : length pairs ≡ bits
  pub least : (bit : ℕ) → bit < bits → IsLeast bit entries (slice_index_or pairs bit zero_pair)

-- the entries aren't separable, and these are their rows
pub record IsFallback (bits : ℕ) (entries : List Entry) (rows : List Row) : Type 0 where
  pub not_separable : ¬ IsSeparable bits entries
  pub few : length entries ≤ most_rows
  pub by_key : AreRowsOf entries rows

-- the record is Served with the least pairs where the entries are separable, and else Fallback with their rows
abbrev pub IsCanonical : (bits : ℕ) → List Entry → GroupRecord → Type 0
IsCanonical bits entries (Served pairs) = AreLeast bits entries pairs
IsCanonical bits entries (Fallback rows) = IsFallback bits entries rows

-- how many rows the record needs
abbrev pub rows_in : GroupRecord → ℕ
rows_in (Served pairs) = 0
rows_in (Fallback rows) = length rows
