-- What an owner's changes make of its groups, one after the other: the content of the messages to the nodes' tables.
use Rattle.std.specs.Prelude.{◌++◌, List, [], ◌∷◌, Option, Some}
use Rattle.flow_types.specs.declared.record.Flow.{Flow}
use Rattle.flow_types.specs.Size.{Size}
use Rattle.group_search.specs.declared.published.Publication.{Publication}
use Rattle.group_search.specs.declared.record.GroupRecord.{GroupRecord}
use Rattle.group_search.specs.Home.{Home}
use Rattle.group_search.specs.Published.{published_group}
use Rattle.group_history.specs.declared.change.Change.{Change}
use Rattle.group_history.specs.Change.{changed_group}
use Rattle.group_history.specs.History.{content_after}

-- a group, and the canonical record of its map; `None` where the map is too large for one, as no accepted change makes it
pub record Delta : Type 0 where
  pub at : Home
  pub content : Option GroupRecord

-- what a change tells that comes after these: its group, and the canonical record of the group's map with it
abbrev pub delta_of : Size → List Flow → (before : List Change) → Change → Delta
delta_of size flows before change = record {
  at = changed_group change;
  content = content_after size flows (before ++ change ∷ []) (changed_group change);
}

-- what these changes tell, one after the other, that come after those before
unfoldable pub deltas_after : Size → List Flow → (before changes : List Change) → List Delta
deltas_after size flows before [] = []
deltas_after size flows before (change ∷ later) = delta_of size flows before change ∷ deltas_after size flows (before ++ change ∷ []) later

-- what an owner's changes tell, where the cluster was opened with these flows
abbrev pub deltas : Size → List Flow → List Change → List Delta
deltas size flows changes = deltas_after size flows [] changes

-- what a record tells that was published for a group
abbrev pub delta_told : Publication → Delta
delta_told p = record { at = published_group p; content = Some p.content }
