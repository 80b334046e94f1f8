-- Where the flows of a cluster send a key, version by version of the key's group.
use Rattle.std.specs.Prelude.{◌≡◌, ℕ, ◌<◌, List, [], All, Option, Some, option_and_then}
use Rattle.flow_types.specs.declared.key.FlowKey.{FlowKey}
use Rattle.flow_types.specs.declared.record.Flow.{Flow}
use Rattle.flow_types.specs.Size.{Size, IsShape}
use Rattle.flow_types.specs.Map.{AreDistinct}
use Rattle.group_search.specs.Build.{IsBuild}
use Rattle.group_search.specs.Decoding.{decoded}
use Rattle.group_search.specs.Home.{home, opening}
use Rattle.group_search.specs.Image.{Image}
use Rattle.group_search.specs.Records.{AreHandled, content_of}
use Rattle.group_history.specs.declared.change.Change.{Change}
use Rattle.group_history.specs.History.{at_version}

-- the node that the canonical record of the key's group gives the key at a version of the group, where the cluster was opened
-- with these flows, and the group's owner has accepted these changes; `None`: nowhere
unfoldable pub routed : Size → List Flow → List Change → (version : ℕ) → FlowKey → Option ℕ
routed size flows changes version key =
    let at = home size.blocks flows key in
    decoded size key (option_and_then (λ (map : List Flow). content_of size.nodes map) (at_version (opening size.blocks flows at) changes at version))

-- before any change each flow's key is sent to the flow's handler
abbrev pub ReachesHandlers : Size → List Flow → Type 0
ReachesHandlers size flows = All (λ (flow : Flow). routed size flows [] 0 flow.key ≡ Some flow.node) flows

-- so it is where the flows can be built
abbrev pub BuildReachesHandlers : Type 0
BuildReachesHandlers = (size : Size) (flows : List Flow) (images : List Image) → IsShape size.nodes size.blocks → AreDistinct flows → AreHandled size.nodes flows
    → IsBuild size flows images → ReachesHandlers size flows

-- before any change no key is sent to a node that there isn't
abbrev pub StaysInCluster : Type 0
StaysInCluster = (size : Size) (flows : List Flow) (key : FlowKey) (node : ℕ) → AreHandled size.nodes flows → routed size flows [] 0 key ≡ Some node → node < size.nodes
