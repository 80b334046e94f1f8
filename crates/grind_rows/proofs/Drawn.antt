-- The state after a number of draws, without the draws before.
use Rattle.std.proofs.Common.{◌≡◌, ◌∙◌, ◌+◌, ◌*◌, ◌%◌, ◌^◌, ◌<◌, ℕ, zero, suc, ap, sym, arith}
use Rattle.std.proofs.Math.Nat.{add-mod-mod, mod-add-mod}
use Rattle.grind_rows.specs.Draws.{draw_step, state_after}

state_is : (seed draws : ℕ) → seed < 2 ^ 64 → state_after seed draws ≡ (seed + draws * draw_step) % 2 ^ 64
unfolding state_after
state_is seed zero low = omega arith
state_is seed (suc draws) low =
    let next : seed + draws * draw_step + draw_step ≡ seed + suc draws * draw_step = omega arith in
    ap (λ state. (state + draw_step) % 2 ^ 64) (state_is seed draws low)
    ∙ mod-add-mod (seed + draws * draw_step) (2 ^ 64) draw_step
    ∙ ap (λ state. state % 2 ^ 64) next

-- the sum may be taken modulo 2^64 before and after
pub drawn : (seed number : ℕ) → seed < 2 ^ 64 → (seed + (number + 1) * draw_step % 2 ^ 64) % 2 ^ 64 ≡ state_after seed (number + 1)
drawn seed number low = add-mod-mod seed ((number + 1) * draw_step) (2 ^ 64) ∙ sym (state_is seed (number + 1) low)
