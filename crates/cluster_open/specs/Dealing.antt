-- The flows of a cluster's opening, dealt to the FIBs that have their records.
use Rattle.std.specs.Prelude.{◌≡◌, ℕ, ◌<◌, List, [], length, filter, slice_index_or}
use Rattle.flow_types.specs.declared.record.Flow.{Flow}
use Rattle.flow_types.specs.Size.{Size}
use Rattle.partial_fib.specs.Fib.{is_handled_of}

-- the flows that the node handles in an owner's blocks, in their order
unfoldable pub own_flows : Size → (node owner : ℕ) → List Flow → List Flow
own_flows size node owner flows = filter (is_handled_of size node owner) flows

-- the node's FIB of each owner has its flows
pub record AreDealt (size : Size) (node : ℕ) (flows : List Flow) (dealt : List (List Flow)) : Type 0 where
  pub one_each : length dealt ≡ size.nodes
  pub each : (owner : ℕ) → owner < size.nodes → slice_index_or dealt owner [] ≡ own_flows size node owner flows
