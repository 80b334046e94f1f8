use Rattle.std.proofs.Common.{◌<◌}
use Rattle.std.specs.List.{AllAdjacentBelow}
use Rattle.group_search.specs.declared.rows.Row.{Row}
use Rattle.group_search.specs.Rows.{key_number}
use Rattle.group_search.proofs.rows.are_rising.Given as goal

abbrev pub invariant-rows : goal.invariant-rows
invariant-rows l = AllAdjacentBelow (λ (a : Row) (b : Row). key_number a < key_number b) l.rows l.next
