-- What the canonical records of groups say of the keys of the flows.
use Rattle.std.specs.Prelude.{◌≡◌, List, Some, All}
use Rattle.flow_types.specs.declared.record.Flow.{Flow}
use Rattle.flow_types.specs.Size.{Size, IsShape}
use Rattle.flow_types.specs.Map.{AreDistinct}
use Rattle.group_search.specs.declared.record.GroupRecord.{GroupRecord}
use Rattle.group_search.specs.Decoding.{decode}
use Rattle.group_search.specs.Home.{home}
use Rattle.group_search.specs.Records.{AreHandled, content_of, record_of}

-- the record of a group gives the key of each of the group's flows the flow's handler
abbrev pub GivesEachHandler : Type 0
GivesEachHandler = (size : Size) (flows : List Flow) (content : GroupRecord) → IsShape size.nodes size.blocks → AreDistinct flows → AreHandled size.nodes flows
    → content_of size.nodes flows ≡ Some content → All (λ (flow : Flow). decode content size.nodes flow.key ≡ Some flow.node) flows

-- the record of a key's home gives the key of each flow the flow's handler
abbrev pub RoutesEachFlow : Type 0
RoutesEachFlow = (size : Size) (flows : List Flow) → IsShape size.nodes size.blocks → AreDistinct flows → AreHandled size.nodes flows
    → All (λ (flow : Flow). (content : GroupRecord) → record_of size flows (home size.blocks flows flow.key) ≡ Some content
    → decode content size.nodes flow.key ≡ Some flow.node) flows
