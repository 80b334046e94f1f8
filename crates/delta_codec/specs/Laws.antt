-- What holds of all spellings.
use Rattle.std.specs.Prelude.{ℕ, ◌≡◌, List, [], ◌++◌}
use Rattle.flow_types.specs.Size.{Size}
use Rattle.delta_codec.specs.declared.message.Message.{Message}
use Rattle.delta_codec.specs.Fits.{Fits}
use Rattle.delta_codec.specs.Values.{IsMessage}
use Rattle.delta_codec.specs.Spelling.{Spells}

-- some octets spell the message, and no others do
pub record HasOneSpelling (size : Size) (message : Message) : Type 0 where
  pub octets : List ℕ
  pub spells : Spells size octets message
  pub no_others : (others : List ℕ) → Spells size others message → others ≡ octets

-- each message that fits has one spelling
abbrev pub EachHasOneSpelling : Size → Type 0
EachHasOneSpelling size = (message : Message) → Fits size message → HasOneSpelling size message

-- octets spell one message at most
abbrev pub SpellOneMessage : Size → Type 0
SpellOneMessage size = (octets : List ℕ) (message other : Message) → IsMessage message → IsMessage other
    → Spells size octets message → Spells size octets other → message ≡ other

-- where a spelling goes on to be a spelling, nothing was added
abbrev pub NoneBeginsAnother : Size → Type 0
NoneBeginsAnother size = (octets more : List ℕ) (message other : Message) → IsMessage message → IsMessage other
    → Spells size octets message → Spells size (octets ++ more) other → more ≡ []
