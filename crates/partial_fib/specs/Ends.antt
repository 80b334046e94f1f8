-- What a contract sees of the ends of a shared FIB.
use Rattle.std.specs.Prelude.{◌≡◌, ◌++◌, Bool, true, List, [], ◌∷◌, Option, None, Some}
use mathlib.Core.List.{IsPrefix}
use Rattle.logbook.specs.Pages.{Book}
use Rattle.delta_codec.specs.declared.message.FibMessage.{FibMessage}
use Rattle.partial_fib.specs.declared.refused.FibRefused.{FibRefused}
use Rattle.partial_fib.specs.declared.refused.FibRefused.TheVariants.{Foreign, Repeat, Early, OutOfMemory}
use Rattle.partial_fib.specs.Fib.{FibState}
use Rattle.partial_fib.specs.Store.{FibStore, state_of}
use Rattle.partial_fib.specs.Turns.{after_turns}

-- what a reader has seen: of which sharing it is, the FIB as it was shared, and the owner's turns since, the first one first
pub record ReaderState : Type 0 where
  pub book : Book
  pub opening : FibStore
  pub turns : List FibMessage

-- what the writer has published, in the same words, and whether it has met want of memory
pub record WriterState : Type 0 where
  pub book : Book
  pub opening : FibStore
  pub turns : List FibMessage
  pub spent : Bool

-- what a FIB says that was shared and has taken these turns since
abbrev pub shared_after : FibStore → List FibMessage → FibState
shared_after opening turns = after_turns (state_of opening) turns

-- a reader of the same sharing has seen the same turns, and perhaps more
pub record IsLater (before after : ReaderState) : Type 0 where
  pub same_book : after.book ≡ before.book
  pub same_opening : after.opening ≡ before.opening
  pub longer : IsPrefix before.turns after.turns

-- the writer with one more turn published
abbrev pub published : WriterState → FibMessage → WriterState
published writer turn = record writer { turns = writer.turns ++ turn ∷ [] }

-- the writer after it refused a message: only want of memory changes it, and from then on it takes no turn
abbrev pub after_refusal : WriterState → FibRefused → WriterState
after_refusal writer (Foreign owner) = writer
after_refusal writer (Repeat have) = writer
after_refusal writer (Early have) = writer
after_refusal writer OutOfMemory = record writer { spent = true }

-- a reader that has seen just what the writer has published
abbrev pub reader_told : WriterState → ReaderState
reader_told writer = record { book = writer.book; opening = writer.opening; turns = writer.turns }

-- it is there, and this holds of it
abbrev pub There : {A : Type 0} → (A → Type 0) → Option A → Type 0
There P None = ⊥
There P (Some a) = P a
