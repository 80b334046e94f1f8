use Rattle.std.proofs.Common.{◌∙◌}
use Rattle.rayon.proofs.ListFacts.{IfOk-then}
use Rattle.rayon.proofs.ToStd.{slice-map}
use Rattle.setsep_build.specs.Placing.{place_of}
use Rattle.setsep_build.proofs.placing.places_of.Goals as goal

pub returns : goal.returns
returns g c =
    IfOk-then c.collect.result _ _ c.collect.ensures (λ v h.
    let chain = rw (c.map.ensures.base, c.map.ensures.f) at h.1 in
    h.2 ∙ slice-map chain.0 c.args.flows.now (chain.1 ∙ c.par_iter.ensures) (place_of c.args.shape.blocks) h.0 chain.2)
