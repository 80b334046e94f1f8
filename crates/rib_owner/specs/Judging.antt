-- What the parts of a judgement answer, one case after another.
use Rattle.std.specs.Prelude.{◌≡◌, ℕ, nat_lt, if◌then◌else◌, length, Option, Some, None, Result, Ok, Err}
use Rattle.group_search.specs.Build.{rows_needed}
use Rattle.group_search.specs.Records.{entries}
use Rattle.group_history.specs.declared.change.Change.{Change}
use Rattle.group_history.specs.Change.{step}
use Rattle.group_history.specs.declared.refused.UpdateRefused.{UpdateRefused}
use Rattle.group_history.specs.declared.refused.UpdateRefused.TheVariants.{Spent, Absent, BlockFull, RowsFull, OutOfMemory}
use Rattle.rib_owner.specs.Part.{rows_free}
use Rattle.rib_owner.specs.Rib.{Part, map_in}

-- a refusal for a cause, or want of memory, which has none
abbrev pub IsFor : Option UpdateRefused → UpdateRefused → Type 0
IsFor why (Spent limit) = why ≡ Some (Spent limit)
IsFor why Absent = why ≡ Some Absent
IsFor why (BlockFull block) = why ≡ Some (BlockFull block)
IsFor why (RowsFull block needed free) = why ≡ Some (RowsFull block needed free)
IsFor why OutOfMemory = Unit {0}

-- there is no cause and the answer is a value, or the refusal is for the cause
abbrev pub Follows : {T : Type 0} → Option UpdateRefused → Result T UpdateRefused → Type 0
Follows why (Ok x) = why ≡ None
Follows why (Err refused) = IsFor why refused

-- why a change is refused for the rows that its group's map takes after it: it takes more than the others leave
unfoldable pub refusal_in_rows : (bits : ℕ) → Part → Change → Option UpdateRefused
refusal_in_rows bits part change =
    let after = step (map_in part change.group) change in
    if nat_lt (rows_free part change.group) (rows_needed bits (entries after)) then Some (RowsFull change.block (length after) (rows_free part change.group)) else None
