use Rattle.std.proofs.Common.{List, map, subst, sym}
use Rattle.std.proofs.lemmas.List.Sorted.{IsPermutation-refl}
use Rattle.setsep_build.specs.declared.placed.Placed.{Placed}
use Rattle.flow_types.specs.Size.{value_bits}
use Rattle.setsep_build.specs.Parts.{AreReady}
use Rattle.setsep_build.specs.Placing.{placed, placed_by}
use Rattle.setsep_build.proofs.OfRun.{part_alike, run_apart}
use Rattle.setsep_build.proofs.WholeBuild.{all_apart}
use Rattle.setsep_build.proofs.running.part_of.Goals as goal

pub images_of-requires-clause-ready : goal.images_of-requires-clause-ready
unfolding placed_by
images_of-requires-clause-ready g c =
    let all : List Placed = map (placed c.args.shape.blocks) c.args.flows.now in
    subst (AreReady c.value_bits.result) (sym c.deref.ensures.value)
    (record {
      enough_bits = c.value_bits.ensures.fewest.at_least_one;
      few_bits = c.value_bits.ensures.most;
      apart = run_apart all c.in_ok-all.all.items c.args.run c.in_ok-all.ensures.each (all_apart c.args.shape c.args.flows.now all (IsPermutation-refl all) c.requires.distinct);
      in_order = c.in_ok-all.ensures.in_order;
    })

pub returns : goal.returns
unfolding placed_by
returns g c =
    let all : List Placed = map (placed c.args.shape.blocks) c.args.flows.now in
    part_alike all c.in_ok-all.all.items c.args.run c.in_ok-all.ensures.each (all_apart c.args.shape c.args.flows.now all (IsPermutation-refl all) c.requires.distinct)
    (value_bits c.args.shape.nodes) (λ images. images.items) c.images_of.result (rw (c.value_bits.ensures.value, c.deref.ensures.value) at c.images_of.ensures)
