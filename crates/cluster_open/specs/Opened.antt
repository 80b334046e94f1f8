-- What stands in a cluster's owners and nodes before its first event.
use Rattle.std.specs.Prelude.{◌≡◌, ℕ, ◌<◌, List, [], length, map, slice_index_or}
use Rattle.std.specs.List.{range_with_len}
use Rattle.flow_types.specs.declared.record.Flow.{Flow}
use Rattle.flow_types.specs.Size.{Size, owners_in}
use Rattle.partial_fib.specs.Fib.{fib_after}
use Rattle.partial_fib.specs.Store.{state_of}
use Rattle.replica_shard.specs.Shard.{shard_after}
use Rattle.replica_shard.specs.Store.{shard_state_of}
use Rattle.turn_log.specs.Sender.{IsSenderOf, SenderState, changes_in}
use Rattle.cluster_open.specs.declared.node.NodeParts.{NodeParts}

-- one for each number below the count, in order
abbrev pub by_number : {T : Type 0} → (count : ℕ) → (ℕ → T) → List T
by_number count each = map each (range_with_len 0 count)

-- one for each owner, as it is before the owner's first turn
abbrev pub AreOpened : {T : Type 0} → (owners : ℕ) → (ℕ → T) → List T → Type 0
AreOpened owners opened all = all ≡ by_number owners opened

-- an owner for each that has a block, before its first turn
abbrev pub AreOpenedSenders : Size → List Flow → List SenderState → Type 0
AreOpenedSenders size flows owners =
    (length owners ≡ owners_in size)
    × ((owner : ℕ) (d : SenderState) → owner < length owners → (changes_in (slice_index_or owners owner d) ≡ []) × IsSenderOf size owner flows (slice_index_or owners owner d))

-- the node of this number, before any owner's first turn: a table and a FIB of each owner that has a block
pub record IsOpenedNode (size : Size) (flows : List Flow) (number : ℕ) (node : NodeParts) : Type 0 where
  pub tables : AreOpened (owners_in size) (λ owner. shard_after size owner flows []) (map shard_state_of node.tables.items)
  pub fibs : AreOpened (owners_in size) (λ owner. fib_after size number owner flows []) (map state_of node.fibs.items)

-- each node, before any owner's first turn
abbrev pub AreOpenedNodes : Size → List Flow → List NodeParts → Type 0
AreOpenedNodes size flows nodes =
    (length nodes ≡ size.nodes)
    × ((number : ℕ) (d : NodeParts) → number < length nodes → IsOpenedNode size flows number (slice_index_or nodes number d))
