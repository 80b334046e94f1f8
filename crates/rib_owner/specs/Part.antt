-- What an owner keeps of a block, so that an update costs no more than the search and the keys of its own group.
use Rattle.std.specs.Prelude.{◌≡◌, ℕ, ◌+◌, ◌*◌, ◌<◌, ◌≤◌, List, length, map, sum, slice_index}
use Rattle.std.specs.List.{All, range_with_len}
use Rattle.flow_types.specs.Map.{AreDistinct}
use Rattle.flow_types.specs.Size.{Size, value_bits}
use Rattle.flow_types.specs.Limits.{most_turns}
use Rattle.group_search.specs.Build.{rows_left, rows_needed}
use Rattle.group_search.specs.Records.{entries}
use Rattle.group_history.specs.declared.change.Change.{Change}
use Rattle.group_history.specs.Acceptance.{keys_in}
use Rattle.rib_owner.specs.Rib.{Part, map_in}

-- how many rows all groups of the block take
unfoldable pub rows_taken : Part → ℕ
rows_taken part = sum (map (λ (group : ℕ). slice_index part.rows group) (range_with_len 0 64))

-- how many rows the groups other than this one leave free
abbrev pub rows_free : Part → (group : ℕ) → ℕ
rows_free part group = rows_left (λ (other : ℕ). slice_index part.rows other) group

-- the groups are maps within the block's limits, and each takes as many rows as it needs
pub record IsKeptPart (bits : ℕ) (part : Part) : Type 0 where
  pub one_map_each : length part.maps ≡ 64
  pub one_number_each : length part.rows ≡ 64
  pub distinct : (group : ℕ) → AreDistinct (map_in part group)
  pub few : keys_in (map_in part) ≤ 1536
  pub rows : (group : ℕ) → group < 64 → slice_index part.rows group ≡ rows_needed bits (entries (map_in part group))
  pub few_rows : rows_taken part ≤ 64

-- what every owner is: it has its blocks among the cluster's, and each is kept within its limits
pub record IsOwner (size : Size) (number : ℕ) (parts : List Part) : Type 0 where
  pub enough : size.blocks ≤ number + size.nodes * length parts
  pub kept : All (IsKeptPart (value_bits size.nodes)) parts

-- its journal has at most as many changes as there are turns
pub record IsSoundRib (size : Size) (number : ℕ) (parts : List Part) (changes : List Change) : Type 0 where
  pub owner : IsOwner size number parts
  pub turns : length changes ≤ most_turns
