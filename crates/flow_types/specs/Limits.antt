-- How many turns an owner has.
use Rattle.std.specs.Prelude.{ℕ}

-- an owner's turns are numbered from 1 to this one
abbrev pub most_turns : ℕ
most_turns = 65535
