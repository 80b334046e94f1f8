use Rattle.std.proofs.Common.{◌≡◌, ◌≤◌}
use Rattle.std.specs.Prelude.{All, sum_by, length}
use Rattle.group_search.specs.Canon.{rows_in}
use Rattle.group_search.specs.Image.{Image}
use Rattle.group_search.specs.Words.{HasBits}
use Rattle.group_search.specs.Records.{HasNodes}
use Rattle.bench.proofs.cells.images.Given as goal

abbrev pub invariant-images : goal.invariant-images
invariant-images l =
    (length l.all.items ≡ l.block) × All (λ (image : Image). sum_by rows_in image.records ≤ 64) l.all.items × All (λ (image : Image). All (HasBits 4) image.records) l.all.items
    × All (λ (image : Image). All (HasNodes 16) image.records) l.all.items
