-- What rows after `begin` mean, in one kind of script or another: an argument of all that is said of scripts.
use Rattle.std.specs.Prelude.{ℕ, ◌≡◌, ◌+◌, ◌<◌, nat_le, ◌&&◌, Bool, true, List, count_by, Option, Result}
use Rattle.flow_types.specs.declared.why.Why.{Why}
use Rattle.csv_rows.specs.Rows.{Row}

pub record Meaning (E : Type 0) : Type 0 where
  -- what a row says by itself: an event, or by None that the script ends
  pub says : Row → Result (Option E) Why
  -- whether an event is a `sync`
  pub is_sync : E → Bool
  -- whether the `sync`s part the script into phases, of which it may have 256
  pub in_phases : Bool

module _ {E : Type 0} (meaning : Meaning E) where
  -- how many of the events are `sync`
  abbrev pub syncs_of : List E → ℕ
  syncs_of events = count_by meaning.is_sync events

  -- whether this event, after these, is one `sync` too many: in a script of phases the 256th is
  abbrev pub is_one_too_many : List E → E → Bool
  is_one_too_many events event = meaning.in_phases && (meaning.is_sync event && nat_le 256 (syncs_of events + 1))

  -- the events make no more phases than the script may have
  abbrev pub HasFewPhases : List E → Type 0
  HasFewPhases events = meaning.in_phases ≡ true → syncs_of events < 256
