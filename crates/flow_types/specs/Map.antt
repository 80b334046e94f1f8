-- Maps from keys to a node and a record: lists of flows of which no two have one key.
use Rattle.std.specs.Prelude.{◌≡◌, ◌≢◌, ◌<◌, ◌^◌, ◌==◌, ◌++◌, ℕ, Bool, not, List, [], ◌∷◌, Option, AllPairs, Contains, filter, find, All}
use Rattle.flow_types.specs.declared.key.FlowKey.{FlowKey}
use Rattle.flow_types.specs.declared.record.Flow.{Flow}
use Rattle.flow_types.specs.declared.record.Record.{Record}
use Rattle.flow_types.specs.Key.{number, IsKeyValue}

-- no two of them have one key
abbrev pub HaveDistinctKeys : {A : Type 0} → (A → FlowKey) → List A → Type 0
HaveDistinctKeys key xs = AllPairs (λ a b. number (key a) ≢ number (key b)) xs

-- the flows are a map: no two of them have one key
abbrev pub AreDistinct : List Flow → Type 0
AreDistinct flows = HaveDistinctKeys (λ (flow : Flow). flow.key) flows

-- the flow is the one of this key
abbrev pub is_of : FlowKey → Flow → Bool
is_of key flow = number flow.key == number key

-- the flow that a map has at a key
unfoldable pub flow_at : FlowKey → List Flow → Option Flow
flow_at key flows = find (is_of key) flows

-- a map has this node and this record at the key
abbrev pub Knows : List Flow → FlowKey → ℕ → Record → Type 0
Knows flows key node info = Contains flows (record { key = key; node = node; info = info })

-- the map with nothing at this key
unfoldable pub without : FlowKey → List Flow → List Flow
without key flows = filter (λ (flow : Flow). not (is_of key flow)) flows

-- the map with this flow at its key, and with no other there
unfoldable pub put : Flow → List Flow → List Flow
put new flows = without new.key flows ++ new ∷ []

-- two maps have the same at each key, in whatever order
abbrev pub IsSameMap : List Flow → List Flow → Type 0
IsSameMap flows others = (key : FlowKey) → flow_at key flows ≡ flow_at key others

-- the flows' keys are in range
abbrev pub HaveKeyValues : List Flow → Type 0
HaveKeyValues flows = All (λ (flow : Flow). IsKeyValue flow.key) flows

-- a TEID and a base station's address have 32 bits
pub record IsRecordValue (info : Record) : Type 0 where
  pub teid : info.teid < 2 ^ 32
  pub base : info.base < 2 ^ 32
