-- Counts that never fall: of the faults of a source or a sink, and of its calls.
use Rattle.std.specs.Prelude.{ℕ, ◌+◌, ◌-◌, ◌^◌, ◌≤◌, min}

-- the greatest count
abbrev pub last_count : ℕ
last_count = 2 ^ 64 - 1

-- the count after one more; at its last value it stands still
abbrev pub next_count : ℕ → ℕ
next_count count = min (count + 1) last_count

-- the count is greater now than before, or stands at its last value, and isn't beyond that
abbrev pub Rose : ℕ → ℕ → Type 0
Rose before now = (next_count before ≤ now) × (now ≤ last_count)
