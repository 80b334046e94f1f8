use Rattle.std.proofs.Common.{◌≡◌, length}
use Rattle.std.specs.Vec.Iter.{into_iter_items, into_iter_len}
use Rattle.setsep_build.specs.Parts.{before_all, joined}
use Rattle.setsep_build.proofs.building.join_parts.Given as goal

abbrev pub invariant-parts : goal.invariant-parts
invariant-parts l = record {
  so_far : joined (λ part. part.items) (into_iter_items l.initial.part-iterator) ≡ before_all l.images.items (joined (λ part. part.items) (into_iter_items l.part-iterator));
  left : into_iter_len l.part-iterator ≡ length (into_iter_items l.part-iterator);
}
