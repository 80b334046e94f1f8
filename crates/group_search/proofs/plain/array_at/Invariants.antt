use Rattle.std.proofs.Common.{◌≡◌, drop}
use Rattle.group_search.specs.Serving.{array_serving}
use Rattle.group_search.proofs.Scan.{scan}
use Rattle.group_search.proofs.plain.array_at.Given as goal

abbrev pub invariant-entries : goal.invariant-entries
invariant-entries l = scan l.index l.bit l.ones l.zeros (drop l.entry-index l.entries) ≡ array_serving l.index l.bit l.entries
