-- What the messages of an owner's changes make of a node's FIB.
use Rattle.std.specs.Prelude.{ℕ, ◌≡◌, ◌+◌, ◌++◌, List, [], ◌∷◌, fold, take}
use Rattle.flow_types.specs.declared.record.Flow.{Flow}
use Rattle.flow_types.specs.Size.{Size}
use Rattle.group_history.specs.declared.change.Change.{Change}
use Rattle.partial_fib.specs.Fib.{fib_after, with_turn}
use Rattle.delta_codec.specs.Messages.{message_after, messages_after}
use Rattle.delta_codec.specs.Journals.{IsOwnChange, IsJournalOf}

-- a node's FIB before a change becomes its FIB after the change by what the change means for the node
abbrev pub TurnsGoOn : Type 0
TurnsGoOn = (size : Size) (node owner : ℕ) (flows : List Flow) (before : List Change) (change : Change) → IsOwnChange size owner flows change
    → with_turn (fib_after size node owner flows before) (message_after size node owner flows before change) ≡ fib_after size node owner flows (before ++ change ∷ [])

-- the opened FIB that took the first messages of an owner's journal is the FIB after as many of its turns
abbrev pub TurnsMakeFib : Type 0
TurnsMakeFib = (size : Size) (node owner : ℕ) (flows : List Flow) (changes : List Change) (turns : ℕ) → IsJournalOf size owner flows changes
    → fold with_turn (fib_after size node owner flows []) (take turns (messages_after size node owner flows [] changes))
    ≡ fib_after size node owner flows (take turns changes)
