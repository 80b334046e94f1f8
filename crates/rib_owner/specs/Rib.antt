-- The flows that an owner keeps, by the groups of its blocks.
use Rattle.std.specs.Prelude.{◌≡◌, ◌==◌, Bool, ℕ, ◌/◌, ◌%◌, ◌<◌, List, [], IsPermutation, slice_index_or, Option}
use Rattle.flow_types.specs.declared.key.FlowKey.{FlowKey}
use Rattle.flow_types.specs.declared.record.Flow.{Flow}
use Rattle.flow_types.specs.declared.record.Record.{Record}
use Rattle.flow_types.specs.Map.{flow_at}
use Rattle.flow_types.specs.Size.{Size}
use Rattle.hash_family.specs.Hash.{place}
use Rattle.group_search.specs.Home.{choices, group_of}
use Rattle.group_history.specs.declared.change.Change.{Change}
use Rattle.group_history.specs.History.{map_now}
use Rattle.group_history.specs.Journal.{Log}

-- a block of an owner: the choice of each bucket, the map of each group, and how many rows each group takes
pub record Part : Type 0 where
  pub choices : List ℕ
  pub maps : List (List Flow)
  pub rows : List ℕ

-- what a contract sees of an owner: the cluster's size, the owner's number, its blocks in their order, and its journal
pub record Rib : Type 0 where
  pub size : Size
  pub number : ℕ
  pub parts : List Part
  pub journal : Log

-- the key's block belongs to the owner
abbrev pub is_owned : Size → (number : ℕ) → FlowKey → Bool
is_owned size number key = (place size.blocks key).block % size.nodes == number

abbrev pub no_part : Part
no_part = record { choices = []; maps = []; rows = [] }

-- the owner's part of one of its blocks: the blocks are dealt to the owners in turn
abbrev pub part_of : Rib → (block : ℕ) → Part
part_of rib block = slice_index_or rib.parts (block / rib.size.nodes) no_part

-- the map of a group of the block
abbrev pub map_in : Part → (group : ℕ) → List Flow
map_in part group = slice_index_or part.maps group []

-- the group of a key of the block
abbrev pub group_in : Part → (blocks : ℕ) → FlowKey → ℕ
group_in part blocks key = group_of part.choices (place blocks key).bucket

-- the flow that the owner has at a key of one of its blocks
abbrev pub found_in : Rib → FlowKey → Option Flow
found_in rib key =
    let part = part_of rib (place rib.size.blocks key).block in
    flow_at key (map_in part (group_in part rib.size.blocks key))

-- a flow's node and record
abbrev pub node_and_record : Flow → ℕ × Record
node_and_record flow = (flow.node, flow.info)

-- a block whose buckets have the groups that the flows give them, and whose groups have the flows of their maps after the
-- changes, in some order
pub record IsPartOf (size : Size) (flows : List Flow) (changes : List Change) (block : ℕ) (part : Part) : Type 0 where
  pub choices : part.choices ≡ choices size.blocks block flows
  pub maps : (group : ℕ) → group < 64 → IsPermutation (map_now size flows changes (record { block = block; group = group })) (map_in part group)

-- the owner was opened with these flows, and each of its blocks stands as they and its journal say
pub record IsRibOf (size : Size) (flows : List Flow) (rib : Rib) : Type 0 where
  pub sized : rib.size ≡ size
  pub parts : (block : ℕ) → block < size.blocks → block % size.nodes ≡ rib.number → IsPartOf size flows rib.journal.changes block (part_of rib block)
