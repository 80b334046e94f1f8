-- One node's records of the keys of one owner's blocks, and what a turn of the owner makes of them.
use Rattle.std.specs.Prelude.{ℕ, ◌==◌, ◌+◌, ◌%◌, ◌&&◌, Bool, if◌then◌else◌, List, length, Option, Some, None}
use Rattle.flow_types.specs.declared.record.Flow.{Flow}
use Rattle.flow_types.specs.declared.record.Record.{Record}
use Rattle.flow_types.specs.Key.{key_of, number}
use Rattle.flow_types.specs.Map.{flow_at}
use Rattle.flow_types.specs.Size.{Size}
use Rattle.hash_family.specs.Hash.{place}
use Rattle.group_search.specs.Home.{Home, home, is_home, opening}
use Rattle.group_history.specs.declared.change.Change.{Change}
use Rattle.group_history.specs.History.{now}
use Rattle.group_history.specs.Journal.{change_count, with_next_version}
use Rattle.delta_codec.specs.declared.message.FibOp.{FibOp}
use Rattle.delta_codec.specs.declared.message.FibOp.TheVariants.{Nothing, Put, Drop}
use Rattle.delta_codec.specs.declared.message.FibMessage.{FibMessage}
use Rattle.group_history.specs.Routes.{handled_record}

-- what a FIB says: the cluster's size, its node, its owner, the record of each key, by the key's number, the version of each
-- group, and how many of the owner's turns it has taken
pub record FibState : Type 0 where
  pub size : Size
  pub node : ℕ
  pub owner : ℕ
  pub records : ℕ → Option Record
  pub versions : Home → ℕ
  pub taken : ℕ

-- the node handles the flow, and the flow's block is the owner's
abbrev pub is_handled_of : Size → (node owner : ℕ) → Flow → Bool
is_handled_of size node owner flow = (flow.node == node) && ((place size.blocks flow.key).block % size.nodes == owner)

-- ---- a turn

-- the records with this one at the key of this number, or with none there
abbrev pub with_record : (ℕ → Option Record) → (key : ℕ) → Option Record → ℕ → Option Record
with_record records key info asked = if asked == key then info else records asked

-- the records after what a turn means for them
abbrev pub with_op : (ℕ → Option Record) → FibOp → ℕ → Option Record
with_op records Nothing = records
with_op records (Put key info) = with_record records (number key) (Some info)
with_op records (Drop key) = with_record records (number key) None

-- the group that a message is of
abbrev pub group_of_message : FibMessage → Home
group_of_message message = record { block = message.block; group = message.group }

-- the FIB after one more turn: the message's key is put or dropped, its group has one more version, and nothing else changes
abbrev pub with_turn : FibState → FibMessage → FibState
with_turn fib message = record {
  size = fib.size;
  node = fib.node;
  owner = fib.owner;
  records = with_op fib.records message.op;
  versions = with_next_version fib.versions (group_of_message message);
  taken = fib.taken + 1;
}

-- ---- after turns

-- the record that a node has of a key with this home, if its block is the owner's, by the map of its group after these changes
abbrev pub record_in_group : Size → (node owner : ℕ) → List Flow → List Change → (key : ℕ) → Home → Option Record
record_in_group size node owner flows changes key at =
    if at.block % size.nodes == owner then handled_record node (flow_at (key_of key) (now (opening size.blocks flows at) changes at)) else None

-- the record that a node has of the key of this number, if the key's block is the owner's, where the cluster was opened with
-- these flows, and the owner has accepted these changes since
unfoldable pub record_after : Size → (node owner : ℕ) → List Flow → List Change → (key : ℕ) → Option Record
record_after size node owner flows changes key = record_in_group size node owner flows changes key (home size.blocks flows (key_of key))

-- a node's FIB of an owner after these changes of the owner: a group's version is the number of its changes among them
abbrev pub fib_after : Size → (node owner : ℕ) → List Flow → List Change → FibState
fib_after size node owner flows changes = record {
  size = size;
  node = node;
  owner = owner;
  records = record_after size node owner flows changes;
  versions = λ at. change_count at changes;
  taken = length changes;
}
