use Rattle.std.proofs.Common.{List, map, subst, sym, arith}
use Rattle.std.specs.Prelude.{All}
use Rattle.std.proofs.lemmas.List.Sorted.{IsPermutation-refl}
use Rattle.setsep_build.specs.declared.placed.Placed.{Placed}
use Rattle.setsep_build.specs.Cut.{Cover}
use Rattle.setsep_build.specs.Parts.{IsNumbered}
use Rattle.setsep_build.specs.Placing.{placed}
use Rattle.setsep_build.proofs.CutFacts.{cover_within}
use Rattle.setsep_build.proofs.WholeBuild.{whole_built, whole_refused}
use Rattle.setsep_build.proofs.building.build.Goals as goal

pub all_parts-requires-clause-numbered : goal.all_parts-requires-clause-numbered
all_parts-requires-clause-numbered g c κs within =
    subst (All IsNumbered) (sym c.deref-2.ensures.value)
    (λ k d low. let inside = cover_within 0 c.blocks-3.result c.in_ok-cut.cut.items c.in_ok-cut.ensures.covers k d low in omega arith)

pub returns-clause-built : goal.returns-clause-built
returns-clause-built g c =
    let all : List Placed = map (placed c.args.shape.blocks) c.args.flows.now in
    whole_built c.args.shape c.args.flows.now all (IsPermutation-refl all) c.requires.distinct (λ part. part.items) c.in_ok-cut.cut.items c.in_ok-parts.parts.items
    (subst (λ blocks. Cover 0 blocks c.in_ok-cut.cut.items) c.blocks-3.ensures.value c.in_ok-cut.ensures.covers)
    (rw c.deref-2.ensures.value at c.in_ok-parts.ensures) c.join_parts.result c.join_parts.ensures.images

pub returns-clause-refused : goal.returns-clause-refused
returns-clause-refused g c =
    let all : List Placed = map (placed c.args.shape.blocks) c.args.flows.now in
    whole_refused c.args.shape c.args.flows.now all (IsPermutation-refl all) c.requires.distinct (λ part. part.items) c.in_ok-cut.cut.items c.in_ok-parts.parts.items
    (subst (λ blocks. Cover 0 blocks c.in_ok-cut.cut.items) c.blocks-3.ensures.value c.in_ok-cut.ensures.covers)
    (rw c.deref-2.ensures.value at c.in_ok-parts.ensures) c.join_parts.result c.join_parts.ensures.refused
