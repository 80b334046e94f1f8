use Rattle.std.proofs.Common.{arith, map}
use Rattle.flow_types.specs.Size.{value_bits}
use Rattle.setsep_build.specs.Parts.{IsPartOf}
use Rattle.setsep_build.specs.Placing.{placed}
use Rattle.setsep_build.proofs.JoinedParts.{zip_from_each}
use Rattle.setsep_build.proofs.RunFacts.{both_ok}
use Rattle.setsep_build.proofs.building.all_parts.Goals as goal

pub returns : goal.returns
returns g c = both_ok c.map_indices.result _ _ _ c.map_indices.ensures.len c.map_indices.ensures.each
    (λ parts long each. zip_from_each (IsPartOf (λ part. part.items) (value_bits c.args.shape.nodes) (map (placed c.args.shape.blocks) c.args.flows.now)) c.args.cut.now parts.items (omega (arith, long, parts.ok))
    (λ i a b low. (each i b low).1.met a))
