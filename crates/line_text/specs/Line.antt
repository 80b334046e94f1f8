-- Lines that are made of words.
use Rattle.std.specs.Prelude.{ℕ, List, [], ◌∷◌, ◌++◌}
use Rattle.std.specs.List.{concat}

-- a line ends with one line feed
abbrev pub line_feed : List ℕ
line_feed = 10 ∷ []

-- the line of these words
abbrev pub line_of : List (List ℕ) → List ℕ
line_of words = concat (words ++ line_feed ∷ [])
