-- The rows that an owner's changes asked for.
use Rattle.std.specs.Prelude.{◌≡◌, ◌≤◌, ℕ, List, take, Some}
use Rattle.std.specs.List.{slice_get}
use Rattle.flow_types.specs.declared.record.Flow.{Flow}
use Rattle.flow_types.specs.Size.{Size, value_bits}
use Rattle.group_search.specs.Build.{rows_needed}
use Rattle.group_search.specs.Records.{entries}
use Rattle.group_history.specs.declared.change.Change.{Change}
use Rattle.group_history.specs.Change.{changed_group, step}
use Rattle.group_history.specs.Acceptance.{free_beside, maps_now}
use Rattle.group_history.specs.History.{map_now}

-- after the change its group needs no more rows than the block's other groups left
abbrev pub HasRows : Size → List Flow → (before : List Change) → Change → Type 0
HasRows size flows before change =
    rows_needed (value_bits size.nodes) (entries (step (map_now size flows before (changed_group change)) change))
    ≤ free_beside (value_bits size.nodes) (maps_now size flows before change.block) change.group

-- no change asked for more rows than were free
abbrev pub HaveRows : Size → List Flow → List Change → Type 0
HaveRows size flows changes = (before : ℕ) (change : Change) → slice_get changes before ≡ Some change → HasRows size flows (take before changes) change
