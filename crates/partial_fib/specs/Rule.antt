-- The rule of a shared FIB: what is published is the FIB that was shared with its turns since, and each end knows a beginning of
-- these turns.
use Rattle.std.specs.Prelude.{⊤, ℕ, ◌≡◌, List, Option, None, Some}
use mathlib.Core.List.{IsPrefix}
use mathlib.Core.Option as maybe
use lib.ListN.{get_elem?}
use Rattle.partial_fib.specs.declared.sharing.shown.Shown.{Shown}
use Rattle.partial_fib.specs.declared.sharing.turn.Turn.{Turn}
use Rattle.partial_fib.specs.Ends.{shared_after}
use Rattle.partial_fib.specs.History.{shared_fib}
use Rattle.partial_fib.specs.Store.{FibStore, IsUnturned, IsWhole, state_of, store_with}

-- what is shown after one more turn
abbrev pub shown_after : Shown → Turn → Shown
shown_after shown turn = record { fib = store_with shown.fib turn.message; origin = shown.origin; past = turn.past }

-- the FIB that was shared, of what is shown
abbrev pub opening_of : Shown → FibStore
opening_of shown = shared_fib shown.origin.log

-- the FIB is the one that was shared, with the turns of the history
pub record IsRight (shown : Shown) : Type 0 where
  pub unturned : IsUnturned (opening_of shown)
  pub whole : IsWhole shown.fib
  pub size : shown.fib.size ≡ (opening_of shown).size
  pub owner : shown.fib.owner ≡ (opening_of shown).owner
  pub turned : state_of shown.fib ≡ shared_after (opening_of shown) shown.past.log

-- of one sharing, and with no more turns
pub record IsBefore (early late : Shown) : Type 0 where
  pub book : early.past.book ≡ late.past.book
  pub origin : early.origin ≡ late.origin
  pub turns : IsPrefix early.past.log late.past.log

-- what an end knows, if it knows anything, comes before what is shown
abbrev pub KnowsBefore : Option Shown → Shown → Type 0
KnowsBefore None shown = ⊤
KnowsBefore (Some known) shown = IsBefore known shown

pub record IsKept (shown : Shown) (views : List (Option Shown)) : Type 0 where
  pub right : IsRight shown
  pub known : (seat : ℕ) (view : Option Shown) → get_elem? views seat ≡ maybe.some view → KnowsBefore view shown

-- what is shown then is known from then on, and goes on from what was known
pub record Sees (before : Option Shown) (old shown : Shown) (after : Option Shown) : Type 0 where
  pub known : after ≡ Some shown
  pub later : KnowsBefore before shown
  pub right : IsRight shown
