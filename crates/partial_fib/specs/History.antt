-- The history of a shared FIB: the list of its turns. It stands in the proofs alone, and so does the FIB that was shared.
use Rattle.std.specs.Prelude.{ℕ, ◌≡◌, ◌==◌, true, List, [], ◌∷◌, ◌++◌, length, MatchBool}
use Rattle.logbook.specs.Pages.{Book, Cell, Named, Step, View}
use Rattle.delta_codec.specs.declared.message.FibMessage.{FibMessage}
use Rattle.partial_fib.specs.Store.{FibStore}

-- the history's first word is its length. A book has two words, and this one leaves the second at 0
abbrev pub IsCounted : List Cell → List FibMessage → Type 0
IsCounted cells turns = cells ≡ (length turns, true) ∷ (0, true) ∷ []

abbrev pub length_word : Book → Named
length_word book = record { tracked = true; key = 0; book = book }

-- the turn was added to all that had been seen; or the history was longer, and that was seen
abbrev pub IsAdded : Step FibMessage → View FibMessage ℕ → ℕ → View FibMessage ℕ → Type 0
IsAdded step before found after = MatchBool (found == step.old) (after.0 ≡ before.0 ++ step.ask ∷ []) (length after.0 ≡ found)

-- the FIB that was shared, which is the one entry of a history of its own
abbrev pub shared_fib : List FibStore → FibStore
shared_fib [] = record { size = record { nodes = 0; blocks = 0 }; node = 0; owner = 0; entries = []; counts = []; taken = 0 }
shared_fib (fib ∷ rest) = fib
