use Rattle.std.proofs.Common.{◌≡◌, ◌+◌, ◌/◌, ◌%◌, ◌≤◌, ◌<◌, ℕ, length, arith, ◌++◌, ◌∷◌, [], ap, sym, subst, length-append, ⊎_elim}
use Rattle.std.specs.Prelude.{All}
use Rattle.std.proofs.lemmas.Bool.{cases_lt, le-ltb, lt-ltb}
use Rattle.std.proofs.lemmas.List.Elements.{All-push}
use Rattle.setsep_build.specs.declared.cutting.Run.{Run}
use Rattle.setsep_build.specs.Cut.{Cover}
use Rattle.setsep_build.proofs.CutFacts.{cover_more}
use Rattle.setsep_build.proofs.cutting.cut.Goals as goal

pub runs-preserved : goal.runs-preserved
runs-preserved c =
    let run : Run = record { first = c.runs.first; count = c.args.blocks / c.args.runs + c.from.result } in
    let longer : ℕ = c.args.blocks % c.args.runs in
    let one_longer : (c.runs.run < longer → c.from.result ≡ 1) × (longer ≤ c.runs.run → c.from.result ≡ 0) =
    (λ low. rw (lt-ltb c.runs.run longer low) at c.from.ensures, λ high. rw (le-ltb c.runs.run longer high) at c.from.ensures) in
    let few : c.from.result ≤ 1 = ⊎_elim (λ low. omega (arith, one_longer.0 low)) (λ high. omega (arith, one_longer.1 high)) (cases_lt c.runs.run longer) in
    let pushed : c.push.new.self.items ≡ c.runs.cut.items ++ run ∷ [] = c.in_ok-push.ensures.items in
    record {
      so_many = omega (arith, ap length pushed, length-append c.runs.cut.items (run ∷ []), c.runs.invariant.so_many);
      covers = subst (Cover 0 (c.runs.first + run.count)) (sym pushed) (cover_more 0 c.runs.first run.count c.runs.cut.items c.runs.invariant.covers);
      next =
          ⊎_elim
          (λ (low : c.runs.run < longer). omega (arith, one_longer.0 low, c.runs.invariant.next))
          (λ (high : longer ≤ c.runs.run). omega (arith, one_longer.1 high, c.runs.invariant.next))
          (cases_lt c.runs.run longer);
      lengths = subst (All (λ (r : Run). (c.args.blocks / c.args.runs ≤ r.count) × (r.count ≤ c.args.blocks / c.args.runs + 1))) (sym pushed)
          (All-push (λ (r : Run). (c.args.blocks / c.args.runs ≤ r.count) × (r.count ≤ c.args.blocks / c.args.runs + 1)) c.runs.cut.items run c.runs.invariant.lengths (omega arith, omega arith));
    }
