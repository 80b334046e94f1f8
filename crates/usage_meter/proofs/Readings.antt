-- What holds of all readings holds of the last.
use Rattle.std.proofs.Common.{◌≡◌, ℕ, ◌<◌, ◌≤◌, All, List, [], ◌∷◌, ◌++◌, length, get_or, length-append, refl, subst, arith}
use Rattle.usage_meter.specs.declared.view.Reading.{Reading}
use Rattle.usage_meter.specs.Plays.{reading}

at_the_end : (rs : List Reading) (r : Reading) → get_or (rs ++ r ∷ []) (length rs) r ≡ r
at_the_end [] r = refl
at_the_end (x ∷ rs) r = at_the_end rs r

pub last_reading : (node total n : ℕ) (rs : List Reading) → All (λ (r : Reading). r.node ≡ node → r.total ≤ n) (rs ++ reading node total ∷ []) → total ≤ n
last_reading node total n rs all =
    let inside : length rs < length (rs ++ reading node total ∷ []) = omega (arith, length-append rs (reading node total ∷ [])) in
    subst (λ (r : Reading). r.node ≡ node → r.total ≤ n) (at_the_end rs (reading node total)) (all (length rs) (reading node total) inside) refl
