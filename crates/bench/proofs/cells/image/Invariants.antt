use Rattle.std.proofs.Common.{◌≡◌}
use Rattle.std.specs.Prelude.{All, sum_by, length}
use Rattle.group_search.specs.Canon.{rows_in}
use Rattle.group_search.specs.Words.{HasBits}
use Rattle.group_search.specs.Records.{HasNodes}
use Rattle.bench.proofs.cells.image.Given as goal

abbrev pub invariant-records : goal.invariant-records
invariant-records l = (length l.records.items ≡ l.number) × (sum_by rows_in l.records.items ≡ 0) × All (HasBits 4) l.records.items × All (HasNodes 16) l.records.items
