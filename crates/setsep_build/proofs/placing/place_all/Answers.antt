use Rattle.std.proofs.Common.{ℕ, List, ◌≡◌, ◌∙◌, ap, arith, map, subst}
use Rattle.std.specs.Prelude.{IsPermutation}
use Rattle.rayon.proofs.ListFacts.{IfOk-then}
use Rattle.setsep_build.specs.declared.placed.Placed.{Placed}
use Rattle.setsep_build.specs.Placing.{placed, placed_by}
use Rattle.setsep_build.proofs.OfRun.{whole_run}
use Rattle.setsep_build.proofs.placing.place_all.Goals as goal

pub returns : goal.returns
returns g c =
    let whole : placed_by c.args.shape.blocks (record { first = 0; count = c.blocks-2.result }) c.args.flows.now ≡ map (placed c.args.shape.blocks) c.args.flows.now =
    ap (λ (count : ℕ). placed_by c.args.shape.blocks (record { first = 0; count = count }) c.args.flows.now) c.blocks-2.ensures.value
    ∙ whole_run c.args.shape.blocks c.args.flows.now (omega (arith, c.blocks-2.ensures.value, c.blocks-2.ensures.least)) in
    IfOk-then c.place_run.result _ _ c.place_run.ensures (λ all is. record {
      each = subst (λ (l : List Placed). IsPermutation l all.items) whole is.each;
      in_order = is.in_order;
    })
