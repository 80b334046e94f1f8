use Rattle.std.proofs.Common.{◌+◌, ◌-◌, ◌≡◌, subst, sym, arith}
use Rattle.std.proofs.lemmas.Result.{err_from_is_err_and}
use Rattle.flow_types.specs.Map.{HaveDistinctKeys}
use Rattle.setsep_build.specs.Parts.{AreImagesOf}
use Rattle.setsep_build.specs.Placing.{placed_key}
use Rattle.setsep_build.proofs.RunFacts.{block_apart, none_so_far, one_more, run_refused}
use Rattle.setsep_build.proofs.running.images_of.Goals as goal

pub images-init : goal.images-init
images-init c = none_so_far c.args.bits c.args.all.now c.args.run.first c.in_ok-images.images.items c.in_ok-images.ensures.items

pub image_of-requires-clause-apart : goal.image_of-requires-clause-apart
image_of-requires-clause-apart c =
    subst (HaveDistinctKeys placed_key) (sym c.placed_in-placed.ensures) (block_apart c.images.block c.args.all.now c.requires.ready.apart)

pub returns-in_err-image_of : goal.returns-in_err-image_of
returns-in_err-image_of c =
    let p = err_from_is_err_and c.from_residual-in_err-image_of.result c.from_residual-in_err-image_of.ensures.1 in
    rw (p.1, p.2)
    (run_refused c.args.bits c.args.all.now c.args.run.first c.args.run.count c.images.block c.images.images.items c.in_err-image_of.field-0.0
    (omega arith) (omega arith) c.images.invariant
    (rw c.placed_in-placed.ensures at c.in_err-image_of.ensures.refused))

pub images-preserved : goal.images-preserved
images-preserved c =
    subst (AreImagesOf c.args.bits c.args.all.now c.args.run.first (c.images.block + 1 - c.args.run.first)) (sym c.in_ok-push.ensures.items)
    (one_more c.args.bits c.args.all.now c.args.run.first c.images.block c.in_ok-image_of.field-0 c.images.images.items (omega arith) c.images.invariant
    (rw c.placed_in-placed.ensures at c.in_ok-image_of.ensures.image))

pub returns : goal.returns
returns c =
    let whole : c.images.block - c.args.run.first ≡ c.args.run.count = omega arith in
    subst (λ count. AreImagesOf c.args.bits c.args.all.now c.args.run.first count c.images.images.items) whole c.images.invariant
