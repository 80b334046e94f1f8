-- What a push and a pop make of what a pass knows.
use Rattle.std.specs.Prelude.{ℕ, ◌≡◌, true, List, [], ◌∷◌, ◌++◌, Option, None, Some}
use mathlib.Core.List.{IsPrefix}
use Rattle.smallvec.specs.SmallVec.{SmallVec}
use Rattle.delta_codec.specs.declared.message.Message.{Message}
use Rattle.delta_codec.specs.Fits.{Fits}
use Rattle.node_link.specs.declared.rule.Log.{Log}
use Rattle.node_link.specs.declared.taken.Taken.{Taken}
use Rattle.node_link.specs.declared.taken.Taken.TheVariants.{Item, Empty}
use Rattle.node_link.specs.Letter.{IsLetter}

-- a message was sent in these octets
pub record HasSent (before : Log) (letter : SmallVec ℕ) (after : Log) : Type 0 where
  pub message : Message
  pub letter_of : IsLetter before.shape letter message
  pub sent : after ≡ record before { sent = before.sent ++ message ∷ [] }

-- a message was taken in these octets. A pass that also sends knows that it had been sent
pub record HasTaken (before : Log) (letter : SmallVec ℕ) (after : Log) : Type 0 where
  pub message : Message
  pub letter_of : IsLetter before.shape letter message
  pub taken : after ≡ record before { taken = before.taken ++ message ∷ [] }
  pub was_sent : before.sends ≡ true → IsPrefix after.taken after.sent

-- where the queue is empty, a pass that sends and takes knows that all that was sent was taken
abbrev pub AllIsTaken : Log → List (SmallVec ℕ) → Type 0
AllIsTaken log letters = log.sends ≡ true → log.takes ≡ true → letters ≡ [] → log.taken ≡ log.sent

-- a pop found the queue empty: nothing was taken, and a pass that also sends knows that all that was sent was taken
pub record PopsNothing (before after : Log) : Type 0 where
  pub taken : after.taken ≡ before.taken
  pub was_sent : before.sends ≡ true → before.taken ≡ before.sent

-- a pop took these octets, or found the queue empty
abbrev pub PopsLetter : (before : Log) → Option (SmallVec ℕ) → (after : Log) → Type 0
PopsLetter before (Some letter) after = HasTaken before letter after
PopsLetter before None after = PopsNothing before after

-- a pop took this message, which is then the last that was taken and fits the shape
pub record PopsItem (before : Log) (message : Message) (after : Log) : Type 0 where
  pub fits : Fits before.shape message
  pub taken : after.taken ≡ before.taken ++ message ∷ []
  pub was_sent : before.sends ≡ true → IsPrefix after.taken before.sent

-- a pop took this message, or found the queue empty
abbrev pub Pops : (before : Log) → Taken → (after : Log) → Type 0
Pops before (Item message) after = PopsItem before message after
Pops before Empty after = PopsNothing before after
