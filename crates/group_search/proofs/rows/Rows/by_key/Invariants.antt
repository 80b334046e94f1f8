use Rattle.std.proofs.Common.{◌≡◌, map, take}
use Rattle.group_search.specs.Rows.{row_of}
use Rattle.group_search.proofs.rows.Rows.by_key.Given as goal

abbrev pub invariant-entries : goal.invariant-entries
invariant-entries l = l.rows.items ≡ map row_of (take l.entry-index l.entries)
