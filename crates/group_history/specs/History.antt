-- The map of a group as the changes of a journal make it, version by version.
use Rattle.std.specs.Prelude.{ℕ, nat_le, if◌then◌else◌, List, take, fold, Option, Some, None}
use Rattle.flow_types.specs.declared.record.Flow.{Flow}
use Rattle.group_search.specs.Home.{Home, opening}
use Rattle.group_search.specs.declared.record.GroupRecord.{GroupRecord}
use Rattle.group_search.specs.Records.{content_of}
use Rattle.group_history.specs.declared.change.Change.{Change}
use Rattle.group_history.specs.Change.{step}
use Rattle.group_history.specs.Journal.{concerning, change_count}
use Rattle.flow_types.specs.Size.{Size}

-- a map after these changes, one after the other
unfoldable pub changed : List Flow → List Change → List Flow
changed flows changes = fold step flows changes

-- the map of a group now: the map with which it was opened, after all changes that concern it
unfoldable pub now : List Flow → List Change → Home → List Flow
now opening changes at = changed opening (concerning at changes)

-- the map of a group at a version: the map with which it was opened, after as many of the changes that concern it; `None`
-- where there aren't as many
unfoldable pub at_version : List Flow → List Change → Home → ℕ → Option (List Flow)
at_version opening changes at version =
    if nat_le version (change_count at changes) then Some (changed opening (take version (concerning at changes))) else None

-- the map of a group after these changes of its owner's journal, where the cluster was opened with these flows
unfoldable pub map_now : Size → List Flow → List Change → Home → List Flow
map_now size flows changes at = now (opening size.blocks flows at) changes at

-- the canonical record of a group's map after these changes; `None` where the map is too large for one
abbrev pub content_after : Size → List Flow → List Change → Home → Option GroupRecord
content_after size flows changes at = content_of size.nodes (now (opening size.blocks flows at) changes at)
