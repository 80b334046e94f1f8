use Rattle.std.proofs.Common.{◌∙◌, ◌+◌, drop, sym}
use Rattle.std.specs.Prelude.{bit_or}
use Rattle.std.specs.Simd.Lanes.{zip2}
use Rattle.group_search.proofs.LaneMasks.{AreSoFar, none_so_far, one_more, none_is_free, free_at_end}
use Rattle.group_search.proofs.turn.free_lanes.Goals as goal

pub zeros-init : goal.zeros-init
zeros-init c = none_so_far c.args.first c.args.zeros.now

pub zeros-preserved : goal.zeros-preserved
zeros-preserved c =
    one_more c.zeros.places c.places-places.result c.args.first c.zeros.before c.index-zeros-before.result c.index-zeros-before.result c.args.zeros.now c.zeros-test.true
    c.index-zeros-before.is c.places-places.ensures c.zeros.invariant

pub returns-then-apart-eq0 : goal.returns-then-apart-eq0
returns-then-apart-eq0 c =
    let so_far : AreSoFar (zip2 bit_or c.zeros.places c.places-places.result) c.args.first (drop (c.zeros.before + 1) c.args.zeros.now) c.args.zeros.now =
    one_more c.zeros.places c.places-places.result c.args.first c.zeros.before c.index-zeros-before.result c.index-zeros-before.result c.args.zeros.now c.zeros-test.true
    c.index-zeros-before.is c.places-places.ensures c.zeros.invariant in
    none_is_free c.args.arrays _ c.args.first _ c.args.zeros.now c.fits-arrays.0 so_far (sym c.apart.ensures ∙ c.if-apart-eq0.true)

pub returns : goal.returns
returns c = c.apart-2.ensures ∙ free_at_end c.args.arrays c.zeros.places c.args.first c.zeros.before c.args.zeros.now c.fits-arrays.0 c.zeros-test.false c.zeros.invariant
