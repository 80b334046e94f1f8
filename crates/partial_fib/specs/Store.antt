-- How a FIB keeps what it says: the records with their keys in some order, and the versions of its owner's groups block by
-- block, and in a block group by group.
use Rattle.std.specs.Prelude.{ℕ, ◌≡◌, ◌==◌, ◌&&◌, ◌+◌, ◌-◌, ◌*◌, ◌/◌, ◌%◌, ◌≤◌, Bool, nat_lt, if◌then◌else◌, List, length, slice_index_or, slice_set, Option}
use Rattle.std.specs.List.{IsDistinct}
use Rattle.std.specs.Map.{keys_of, lookup}
use Rattle.indexmap.specs.IndexMap.{insert_entry, swap_remove_entry}
use Rattle.block_layout.specs.Limits.{group_count}
use Rattle.flow_types.specs.declared.key.FlowKey.{FlowKey}
use Rattle.flow_types.specs.declared.record.Record.{Record}
use Rattle.flow_types.specs.Key.{key_of, same_key}
use Rattle.flow_types.specs.Size.{Size}
use Rattle.group_search.specs.Home.{Home}
use Rattle.delta_codec.specs.declared.message.FibMessage.{FibMessage}
use Rattle.delta_codec.specs.declared.message.FibOp.{FibOp}
use Rattle.delta_codec.specs.declared.message.FibOp.TheVariants.{Nothing, Put, Drop}
use Rattle.partial_fib.specs.Fib.{FibState, group_of_message}

-- what a contract sees of a FIB
pub record FibStore : Type 0 where
  pub size : Size
  pub node : ℕ
  pub owner : ℕ
  pub entries : List (FlowKey × Record)
  pub counts : List ℕ
  pub taken : ℕ

-- the record of the key of a number
abbrev pub record_among : List (FlowKey × Record) → (key : ℕ) → Option Record
record_among entries key = lookup (same_key (key_of key)) entries

-- the group is one of a block of the owner
abbrev pub is_group_of : Size → (owner : ℕ) → Home → Bool
is_group_of size owner at = nat_lt at.block size.blocks && ((at.block % size.nodes == owner) && nat_lt at.group group_count)

-- the place of a group's version: the blocks are dealt to the owners in turn
abbrev pub slot_of : (nodes : ℕ) → Home → ℕ
slot_of nodes at = at.block / nodes * group_count + at.group

-- the version of a group, and 0 for a group that isn't the owner's
abbrev pub version_in : Size → (owner : ℕ) → (counts : List ℕ) → Home → ℕ
version_in size owner counts at = if is_group_of size owner at then slice_index_or counts (slot_of size.nodes at) 0 else 0

-- how many places the groups of an owner's blocks take
abbrev pub slot_count : Size → ℕ
slot_count size = (size.blocks - 1) / size.nodes * group_count + group_count

-- each group of the owner has a place, and at most as many versions as turns were taken
pub record KeepsVersions (size : Size) (owner taken : ℕ) (counts : List ℕ) : Type 0 where
  pub places : length counts ≡ slot_count size
  pub few : (at : Home) → version_in size owner counts at ≤ taken

-- what a FIB says by what it keeps
abbrev pub state_of : FibStore → FibState
state_of fib = record {
  size = fib.size;
  node = fib.node;
  owner = fib.owner;
  records = record_among fib.entries;
  versions = version_in fib.size fib.owner fib.counts;
  taken = fib.taken;
}

-- ---- a turn

-- the entries after what a turn means for them: a key that is there keeps its place and takes the record, a new key goes last,
-- and the last entry takes the place of one that goes
abbrev pub entries_with : List (FlowKey × Record) → FibOp → List (FlowKey × Record)
entries_with entries Nothing = entries
entries_with entries (Put key info) = insert_entry same_key entries key info
entries_with entries (Drop key) = swap_remove_entry (same_key key) entries

-- the versions with the next one at this place
abbrev pub counts_with : (counts : List ℕ) → (place : ℕ) → List ℕ
counts_with counts place = slice_set counts place (slice_index_or counts place 0 + 1)

-- what a FIB keeps after one more turn
abbrev pub store_with : FibStore → FibMessage → FibStore
store_with fib message = record fib {
  entries = entries_with fib.entries message.op;
  counts = counts_with fib.counts (slot_of fib.size.nodes (group_of_message message));
  taken = fib.taken + 1;
}

-- no key has two entries
abbrev pub HasEachKeyOnce : List (FlowKey × Record) → Type 0
HasEachKeyOnce entries = IsDistinct same_key (keys_of entries)

-- and each group of the owner has a place
pub record IsWhole (fib : FibStore) : Type 0 where
  pub once : HasEachKeyOnce fib.entries
  pub places : length fib.counts ≡ slot_count fib.size

-- it is whole, and has taken no turn
pub record IsUnturned (fib : FibStore) : Type 0 where
  pub whole : IsWhole fib
  pub untaken : fib.taken ≡ 0
  pub unversioned : (at : Home) → version_in fib.size fib.owner fib.counts at ≡ 0
