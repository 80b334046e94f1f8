-- The random numbers of a grind.
use Rattle.std.specs.Prelude.{ℕ, ◌+◌, ◌%◌, ◌^◌, zero, suc}
use Rattle.hash_family.specs.Hash.{mix}

-- what each draw adds to the state: 2^64 divided by the golden ratio, to the nearest odd number
abbrev pub draw_step : ℕ
draw_step = 0x9E3779B97F4A7C15

-- the state starts at the seed, and each draw adds the step to it, modulo 2^64
unfoldable pub state_after : (seed draws : ℕ) → ℕ
state_after seed zero = seed
state_after seed (suc draws) = (state_after seed draws + draw_step) % 2 ^ 64

-- the draw of this number, from 0, gives its state mixed
unfoldable pub draw : (seed number : ℕ) → ℕ
draw seed number = mix (state_after seed (number + 1))
