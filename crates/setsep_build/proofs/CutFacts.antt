-- Runs that follow one another.
use Rattle.std.proofs.Common.{ℕ, ◌+◌, ◌≤◌, List, [], ◌∷◌, ◌++◌, sym, arith}
use Rattle.std.specs.Prelude.{All}
use Rattle.std.proofs.lemmas.List.Elements.{All-cons, All-nil}
use Rattle.setsep_build.specs.declared.cutting.Run.{Run}
use Rattle.setsep_build.specs.Cut.{Cover}

-- one more run behind the others
pub cover_more : (from end count : ℕ) (cut : List Run) → Cover from end cut → Cover from (end + count) (cut ++ record { first = end; count = count } ∷ [])
cover_more from end count [] covers = (sym covers, omega arith)
cover_more from end count (run ∷ cut) covers = (covers.0, cover_more (from + run.count) end count cut covers.1)

-- the runs end no later than the last
pub cover_up : (from end : ℕ) (cut : List Run) → Cover from end cut → from ≤ end
cover_up from end [] covers = omega arith
cover_up from end (run ∷ cut) covers = let later = cover_up (from + run.count) end cut covers.1 in omega arith

-- no run goes past the end
pub cover_within : (from end : ℕ) (cut : List Run) → Cover from end cut → All (λ (run : Run). run.first + run.count ≤ end) cut
cover_within from end [] covers = All-nil (λ (run : Run). run.first + run.count ≤ end)
cover_within from end (run ∷ cut) covers =
    let later = cover_up (from + run.count) end cut covers.1 in
    let here : run.first + run.count ≤ end = omega (arith, covers.0) in
    All-cons (λ (run : Run). run.first + run.count ≤ end) run cut here (cover_within (from + run.count) end cut covers.1)
