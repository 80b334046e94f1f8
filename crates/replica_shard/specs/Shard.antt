-- A node's table of the blocks that one node owns: what it says of keys, and what a turn of the owner makes of it.
use Rattle.std.specs.Prelude.{ℕ, ◌==◌, ◌+◌, ◌%◌, ◌&&◌, Bool, nat_lt, if◌then◌else◌, List, [], length, Option, Some, None}
use Rattle.flow_types.specs.declared.key.FlowKey.{FlowKey}
use Rattle.flow_types.specs.declared.record.Flow.{Flow}
use Rattle.flow_types.specs.Size.{Size}
use Rattle.hash_family.specs.declared.bucket.Place.{Place}
use Rattle.group_search.specs.declared.record.GroupRecord.{GroupRecord}
use Rattle.group_search.specs.Build.{rows_left}
use Rattle.group_search.specs.Canon.{rows_in}
use Rattle.group_search.specs.Home.{Home, choices, group_of, is_home}
use Rattle.group_history.specs.declared.change.Change.{Change}
use Rattle.group_history.specs.History.{content_after}
use Rattle.group_history.specs.Journal.{change_count, with_next_version}
use Rattle.delta_codec.specs.declared.message.TableMessage.{TableMessage}
use Rattle.replica_shard.specs.declared.routing.Route.{Route}
use Rattle.group_search.specs.Decoding.{decoded}

-- what a shard says: the cluster's size, its owner, the choices of each block, the record and the version of each group, and
-- how many of the owner's turns it has taken
pub record ShardState : Type 0 where
  pub size : Size
  pub owner : ℕ
  pub choices : ℕ → List ℕ
  pub records : Home → Option GroupRecord
  pub versions : Home → ℕ
  pub taken : ℕ

-- the block is one of the owner's
abbrev pub is_owned_block : Size → (owner block : ℕ) → Bool
is_owned_block size owner block = nat_lt block size.blocks && (block % size.nodes == owner)

-- the group is one of a block of the owner
abbrev pub is_owned_group : Size → (owner : ℕ) → Home → Bool
is_owned_group size owner at = is_owned_block size owner at.block && nat_lt at.group 64

-- ---- a key

-- the home of a key that stands at the place
abbrev pub home_in_state : ShardState → Place → Home
home_in_state shard at = record { block = at.block; group = group_of (shard.choices at.block) at.bucket }

-- where a key that stands at the place is sent: to the node that the record of its home gives it, if any
abbrev pub route_in_state : ShardState → Place → FlowKey → Route
route_in_state shard at key = record {
  version = shard.versions (home_in_state shard at);
  node = decoded shard.size key (shard.records (home_in_state shard at));
}

-- ---- a turn

-- how many rows the record takes, if there is one
abbrev pub rows_taken_by : Option GroupRecord → ℕ
rows_taken_by None = 0
rows_taken_by (Some content) = rows_in content

-- how many of a block's rows its groups other than this one leave
abbrev pub free_rows : ShardState → (block group : ℕ) → ℕ
free_rows shard block group = rows_left (λ (other : ℕ). rows_taken_by (shard.records (record { block = block; group = other }))) group

-- the records with this one at a group
abbrev pub with_group_record : (Home → Option GroupRecord) → (changed : Home) → GroupRecord → Home → Option GroupRecord
with_group_record records changed content asked = if is_home changed asked then Some content else records asked

-- the group whose record a message says
abbrev pub group_told : TableMessage → Home
group_told message = record { block = message.block; group = message.group }

-- the shard after one more turn: the message's group has the message's record and one more version, and nothing else changes
abbrev pub with_content : ShardState → TableMessage → ShardState
with_content shard message = record {
  size = shard.size;
  owner = shard.owner;
  choices = shard.choices;
  records = with_group_record shard.records (group_told message) message.content;
  versions = with_next_version shard.versions (group_told message);
  taken = shard.taken + 1;
}

-- ---- after turns

-- a shard of an owner's blocks, where the cluster was opened with these flows, and the owner has accepted these changes since:
-- a group's version is the number of its changes among them
abbrev pub shard_after : Size → (owner : ℕ) → List Flow → List Change → ShardState
shard_after size owner flows changes = record {
  size = size;
  owner = owner;
  choices = λ (block : ℕ). if is_owned_block size owner block then choices size.blocks block flows else [];
  records = λ (at : Home). if is_owned_group size owner at then content_after size flows changes at else None;
  versions = λ (at : Home). change_count at changes;
  taken = length changes;
}
