-- The flows of the table as the build keeps them: each where it stands.
use Rattle.std.specs.Prelude.{ℕ, ◌≡◌, ◌+◌, ◌<◌, ◌≤◌, ◌==◌, ◌⊎◌, ◌&&◌, Bool, List, [], length, map, filter, nat_lt, nat_le, count_by, slice_index, slice_index_or, IsPermutation}
use Rattle.std.specs.List.{range_with_len, AllAdjacentBelow}
use Rattle.flow_types.specs.declared.key.FlowKey.{FlowKey}
use Rattle.flow_types.specs.declared.record.Flow.{Flow}
use Rattle.flow_types.specs.Key.{number}
use Rattle.hash_family.specs.declared.bucket.Place.{Place}
use Rattle.hash_family.specs.Hash.{pair, place}
use Rattle.block_layout.specs.Limits.{bucket_count, group_count}
use Rattle.group_search.specs.declared.entry.Entry.{Entry}
use Rattle.group_search.specs.Home.{group_of}
use Rattle.setsep_build.specs.declared.cutting.Run.{Run}
use Rattle.setsep_build.specs.declared.placed.Placed.{Placed}

-- the flow in its block and bucket
abbrev pub placed_at : Place → Flow → Placed
placed_at at flow = record { key = flow.key; block = at.block; bucket = at.bucket; node = flow.node }

abbrev pub placed : (blocks : ℕ) → Flow → Placed
placed blocks flow = placed_at (place blocks flow.key) flow

-- the place of the flow's key
abbrev pub place_of : (blocks : ℕ) → Flow → Place
place_of blocks flow = place blocks flow.key

-- by what the flows are put in order
abbrev pub rank : Placed → ℕ × ℕ × ℕ
rank one = (one.block, one.bucket, number one.key)

-- the one stands no later than the other: by the block, then by the bucket, then by the key's number
abbrev pub IsNoLater : Placed → Placed → Type 0
IsNoLater a b = (a.block < b.block) ⊎ ((a.block ≡ b.block) × ((a.bucket < b.bucket) ⊎ ((a.bucket ≡ b.bucket) × (number a.key ≤ number b.key))))

-- each stands no later than the next
abbrev pub AreInOrder : List Placed → Type 0
AreInOrder all = AllAdjacentBelow IsNoLater all (length all)

-- the flows where they stand, in order
pub record ArePlaced (blocks : ℕ) (flows : List Flow) (all : List Placed) : Type 0 where
  pub each : IsPermutation (map (placed blocks) flows) all
  pub in_order : AreInOrder all

-- whether the block is one of the run's
abbrev pub has_block : Run → (block : ℕ) → Bool
has_block run block = nat_le run.first block && nat_lt block (run.first + run.count)

abbrev pub is_in_run : Run → Placed → Bool
is_in_run run one = has_block run one.block

-- the flows of a run's blocks where they stand, as they came
unfoldable pub placed_by : (blocks : ℕ) → Run → List Flow → List Placed
placed_by blocks run flows = filter (is_in_run run) (map (placed blocks) flows)

-- the flows of a run's blocks where they stand, in order
pub record ArePlacedBy (blocks : ℕ) (run : Run) (flows : List Flow) (all : List Placed) : Type 0 where
  pub each : IsPermutation (placed_by blocks run flows) all
  pub in_order : AreInOrder all

abbrev pub placed_key : Placed → FlowKey
placed_key one = one.key

abbrev pub is_block : (block : ℕ) → Placed → Bool
is_block block one = one.block == block

-- those of a block
unfoldable pub placed_in : (block : ℕ) → List Placed → List Placed
placed_in block all = filter (is_block block) all

abbrev pub is_bucket : (bucket : ℕ) → Placed → Bool
is_bucket bucket one = one.bucket == bucket

-- how many of a block's flows each bucket has
unfoldable pub sizes_in : List Placed → List ℕ
sizes_in all = map (λ (bucket : ℕ). count_by (is_bucket bucket) all) (range_with_len 0 bucket_count)

-- the group of each bucket under these choices
unfoldable pub groups_of : (choices : List ℕ) → List ℕ
groups_of choices = map (group_of choices) (range_with_len 0 bucket_count)

abbrev pub is_group : (groups : List ℕ) → (group : ℕ) → Placed → Bool
is_group groups group one = slice_index groups one.bucket == group

-- the flow as an entry of its group
abbrev pub entry_in : Placed → Entry
entry_in one = record { pair = pair one.key; key = one.key; node = one.node }

-- the entries of one group of a block, in their order
unfoldable pub gathered : (groups : List ℕ) → (group : ℕ) → List Placed → List Entry
gathered groups group all = map entry_in (filter (is_group groups group) all)

-- each group of the block has its entries
abbrev pub AreGathered : (groups : List ℕ) → List Placed → List (List Entry) → Type 0
AreGathered groups all found = (group : ℕ) → group < group_count → slice_index_or found group [] ≡ gathered groups group all
