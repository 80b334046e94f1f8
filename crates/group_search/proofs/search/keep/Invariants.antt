use Rattle.std.proofs.Common.{◌≡◌, ◌++◌, drop}
use Rattle.group_search.specs.Lanes.{pairs_with}
use Rattle.group_search.proofs.search.keep.Given as goal

abbrev pub invariant-entries : goal.invariant-entries
invariant-entries l = l.lines.items ++ pairs_with l.value l.bit (drop l.entry-index l.entries) ≡ l.fn.lines.items ++ pairs_with l.value l.bit l.entries
