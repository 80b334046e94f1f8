-- Flows with which a cluster can be opened, and the first flow of a list that can't be one of them.
use Rattle.std.specs.Prelude.{◌≡◌, ◌<◌, ◌≤◌, ◌++◌, ◌∷◌, ℕ, false, List, [], All, Contains, length, codes}
use Rattle.std.specs.Fmt.{decimal}
use Rattle.std.specs.List.{concat}
use Rattle.flow_types.specs.Key.{IsKeyValue}
use Rattle.flow_types.specs.Map.{AreDistinct}
use Rattle.flow_types.specs.Size.{Size}
use Rattle.flow_types.specs.declared.record.Flow.{Flow}
use Rattle.flow_reader.specs.Opening.{has_key, keys_of}
use Rattle.flow_reader.specs.declared.refused.FlowsRefused.{FlowsRefused}
use Rattle.flow_reader.specs.declared.refused.FlowsRefused.TheVariants.{NoSuchNode, RepeatedKey, OutOfMemory}

-- what a contract sees of a `FlowMap`
pub record Mapped : Type 0 where
  pub shape : Size
  pub flows : List Flow

-- no two of these flows have one key, and each one's node is one of the cluster's
pub record IsFlowMap (shape : Size) (flows : List Flow) : Type 0 where
  pub distinct : AreDistinct flows
  pub handled : All (λ (flow : Flow). flow.node < shape.nodes) flows

-- a flow can follow these
pub record IsNext (shape : Size) (before : List Flow) (flow : Flow) : Type 0 where
  pub handled : flow.node < shape.nodes
  pub new_key : has_key flow.key before ≡ false
  pub values : IsKeyValue flow.key

-- what is wrong with a flow after these
abbrev pub FaultAfter : Size → List Flow → Flow → FlowsRefused → Type 0
FaultAfter shape before flow (NoSuchNode place node) = (place ≡ length before) × (node ≡ flow.node) × (shape.nodes ≤ flow.node)
FaultAfter shape before flow (RepeatedKey place) = (place ≡ length before) × (flow.node < shape.nodes) × Contains (keys_of before) flow.key
FaultAfter shape before flow OutOfMemory = Unit {0}

-- this is wrong with a flow of the list, and nothing with those before it
pub record IsFirstFault (shape : Size) (flows : List Flow) (why : FlowsRefused) : Type 0 where
  pub before : List Flow
  pub flow : Flow
  pub after : List Flow
  pub split : flows ≡ before ++ flow ∷ after
  pub sound : IsFlowMap shape before
  pub fault : FaultAfter shape before flow why

-- a refusal names the first fault; want of memory names none
abbrev pub Refuses : Size → List Flow → FlowsRefused → Type 0
Refuses shape flows (NoSuchNode place node) = IsFirstFault shape flows (NoSuchNode place node)
Refuses shape flows (RepeatedKey place) = IsFirstFault shape flows (RepeatedKey place)
Refuses shape flows OutOfMemory = Unit {0}

-- how a refusal is printed
abbrev pub refused_text : FlowsRefused → List ℕ
refused_text (NoSuchNode place node) = concat (codes "flow " ∷ decimal place ∷ codes ": no node " ∷ decimal node ∷ codes " in the cluster" ∷ [])
refused_text (RepeatedKey place) = codes "flow " ++ decimal place ++ codes ": a key that an earlier flow has"
refused_text OutOfMemory = codes "out of memory"
