use Rattle.std.proofs.Common.{◌≡◌, ◌-◌, is_some}
use Rattle.group_search.specs.Canon.{is_separable, least_pairs}
use Rattle.group_search.proofs.choosing.separable.Given as goal

abbrev pub invariant-bits : goal.invariant-bits
invariant-bits l = is_some (least_pairs (l.bits - l.bit) l.bit l.entries) ≡ is_separable l.bits l.entries
