-- What a receiver says of a message: it takes the turns of one owner, mine, in order, and has taken a number of them. A
-- refusal names the message's owner, or how many turns it has.
use Rattle.std.specs.Prelude.{◌≡◌, ◌≢◌, ℕ, ◌+◌, ◌<◌, ◌≤◌}

-- the message is another owner's, the one that is named
abbrev pub IsForeign : (mine owner named : ℕ) → Type 0
IsForeign mine owner named = (owner ≢ mine) × (named ≡ owner)

-- the turn is one that was taken before
abbrev pub IsRepeat : (mine taken owner turn have : ℕ) → Type 0
IsRepeat mine taken owner turn have = (owner ≡ mine) × (turn ≤ taken) × (have ≡ taken)

-- a turn before it is missing
abbrev pub IsEarly : (mine taken owner turn have : ℕ) → Type 0
IsEarly mine taken owner turn have = (owner ≡ mine) × (taken + 1 < turn) × (have ≡ taken)
