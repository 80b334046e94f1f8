use Rattle.std.proofs.Common.{◌≡◌, ◌+◌, ◌*◌, ◌≤◌, length, min}
use Rattle.std.specs.Prelude.{All}
use Rattle.setsep_build.specs.declared.cutting.Run.{Run}
use Rattle.setsep_build.specs.Cut.{Cover}
use Rattle.setsep_build.proofs.cutting.cut.Given as goal

abbrev pub invariant-runs : goal.invariant-runs
invariant-runs l = record {
  so_many : length l.cut.items ≡ l.run;
  covers : Cover 0 l.first l.cut.items;
  next : l.first ≡ l.run * l.least + min l.run l.longer;
  lengths : All (λ (r : Run). (l.least ≤ r.count) × (r.count ≤ l.least + 1)) l.cut.items;
}
