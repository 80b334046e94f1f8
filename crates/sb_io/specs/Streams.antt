-- What a call does to the octets that a source has left or that a sink holds, where these are told.
use Rattle.std.specs.Prelude.{◌≡◌, ℕ, ◌<◌, ◌≤◌, List, [], length, take, drop, ⊤, Option, None, Some}
use Rattle.std.specs.Io.KnownBytes.{Appends}

-- the octets are all that was left, and none is left now
abbrev pub ReadsAll : Option (List ℕ) → Option (List ℕ) → List ℕ → Type 0
ReadsAll None now octets = ⊤
ReadsAll (Some left) now octets = (octets ≡ left) × (now ≡ Some [])

-- exactly this number of octets was read, of those that were left
abbrev pub ReadsCount : List ℕ → Option (List ℕ) → ℕ → Type 0
ReadsCount left now count = (count ≤ length left) × (now ≡ Some (drop count left))

-- a part of the octets was appended from their start, and not all of them
abbrev pub AppendsPart : Option (List ℕ) → Option (List ℕ) → List ℕ → Type 0
AppendsPart held now octets = (n : ℕ) × (n < length octets) × Appends held now (take n octets)
