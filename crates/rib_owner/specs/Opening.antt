-- How far an owner is filled with the flows with which a cluster is opened.
use Rattle.std.specs.Prelude.{◌≡◌, ℕ, ◌+◌, ◌*◌, ◌<◌, ◌≤◌, List, IsPermutation, length, filter, slice_index, slice_index_or}
use Rattle.flow_types.specs.declared.record.Flow.{Flow}
use Rattle.flow_types.specs.Size.{Size, value_bits}
use Rattle.group_search.specs.Build.{rows_needed}
use Rattle.group_search.specs.Home.{choices, flows_of, home, is_home, opening}
use Rattle.group_search.specs.Records.{entries}
use Rattle.group_history.specs.Acceptance.{keys_in}
use Rattle.rib_owner.specs.Rib.{Part, map_in, no_part}

-- the flows among those read whose keys have this home, in their order
abbrev pub read_of : Size → List Flow → List Flow → (block group : ℕ) → List Flow
read_of size flows read block group = filter (λ (flow : Flow). is_home (home size.blocks flows flow.key) (record { block = block; group = group })) read

-- the block has the choices and the rows that the flows give it, and those of its flows that were read, in some order
pub record IsFilled (size : Size) (flows read : List Flow) (block : ℕ) (part : Part) : Type 0 where
  pub choices : part.choices ≡ choices size.blocks block flows
  pub one_map_each : length part.maps ≡ 64
  pub one_number_each : length part.rows ≡ 64
  pub maps : (group : ℕ) → group < 64 → IsPermutation (read_of size flows read block group) (map_in part group)
  pub keys : keys_in (map_in part) ≡ length (flows_of size.blocks block read)
  pub rows : (group : ℕ) → group < 64 → slice_index part.rows group ≡ rows_needed (value_bits size.nodes) (entries (opening size.blocks flows (record { block = block; group = group })))

-- so is each of the owner's blocks, and these are all of them
pub record AreFilled (size : Size) (number : ℕ) (flows read : List Flow) (parts : List Part) : Type 0 where
  pub enough : size.blocks ≤ number + size.nodes * length parts
  pub each : (at : ℕ) → at < length parts → (number + size.nodes * at < size.blocks) × IsFilled size flows read (number + size.nodes * at) (slice_index_or parts at no_part)
