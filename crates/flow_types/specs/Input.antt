-- How large an input may be.
use Rattle.std.specs.Prelude.{ℕ}

-- an input has at most 64 MiB, in octets
abbrev pub most_octets : ℕ
most_octets = 67108864
