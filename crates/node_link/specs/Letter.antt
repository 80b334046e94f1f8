-- The octets in which a message stands in the queue.
use Rattle.std.specs.Prelude.{ℕ, List, [], ◌∷◌}
use Rattle.smallvec.specs.SmallVec.{SmallVec}
use Rattle.flow_types.specs.Size.{Size}
use Rattle.delta_codec.specs.declared.message.Message.{Message}
use Rattle.delta_codec.specs.Spelling.{Spells}
use Rattle.delta_codec.specs.Values.{IsMessage}

-- the octets spell the message, which fits the shape
pub record IsLetter (size : Size) (letter : SmallVec ℕ) (message : Message) : Type 0 where
  pub sized : IsMessage message
  pub spells : Spells size letter.items message

-- each of the octets spells the message at its place
abbrev pub AreLetters : Size → List (SmallVec ℕ) → List Message → Type 0
AreLetters size [] [] = Unit {0}
AreLetters size [] (message ∷ messages) = ⊥
AreLetters size (letter ∷ letters) [] = ⊥
AreLetters size (letter ∷ letters) (message ∷ messages) = IsLetter size letter message × AreLetters size letters messages
