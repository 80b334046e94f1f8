-- Whose changes a journal has.
use Rattle.std.specs.Prelude.{ℕ, ◌≡◌, ◌%◌, List, All, ◌<◌}
use Rattle.flow_types.specs.declared.record.Flow.{Flow}
use Rattle.flow_types.specs.Size.{Size}
use Rattle.group_search.specs.Home.{home}
use Rattle.group_history.specs.declared.change.Change.{Change}
use Rattle.group_history.specs.Change.{changed_group}
use Rattle.flow_types.specs.Key.{IsKeyValue}

-- a change of one of the owner's groups, which is the home of the change's key
pub record IsOwnChange (size : Size) (owner : ℕ) (flows : List Flow) (change : Change) : Type 0 where
  pub key : IsKeyValue change.key
  pub at_home : home size.blocks flows change.key ≡ changed_group change
  pub owned : change.block % size.nodes ≡ owner

-- each change is of one of the owner's groups
abbrev pub IsJournalOf : Size → (owner : ℕ) → List Flow → List Change → Type 0
IsJournalOf size owner flows changes = All (IsOwnChange size owner flows) changes

-- the change is of a group of one of the owner's blocks
pub record IsOfOwner (size : Size) (owner : ℕ) (change : Change) : Type 0 where
  pub within : change.block < size.blocks
  pub owned : change.block % size.nodes ≡ owner
  pub in_block : change.group < 64
