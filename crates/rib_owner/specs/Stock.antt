-- How an owner keeps the flows of a block: by their buckets, in one arena.
use Rattle.std.specs.Prelude.{◌≡◌, ◌==◌, ℕ, List, [], length, map, filter, flat_map, slice_index_or, slice_set}
use Rattle.std.specs.List.{All, range_with_len}
use Rattle.bucket_arena.specs.Arena.{Buckets, item_count}
use Rattle.flow_types.specs.declared.key.FlowKey.{FlowKey}
use Rattle.flow_types.specs.declared.record.Flow.{Flow}
use Rattle.hash_family.specs.Hash.{place}
use Rattle.group_search.specs.Home.{group_of}
use Rattle.rib_owner.specs.Part.{rows_taken}
use Rattle.rib_owner.specs.Rib.{Part, map_in}

-- a block as its owner keeps it: the choice of each bucket, the flows by their buckets, and how many rows each group takes
pub record Stock : Type 0 where
  pub choices : List ℕ
  pub arena : Buckets Flow
  pub rows : List ℕ

-- the bucket of a key, which is the same for any number of blocks
abbrev pub bucket_for : FlowKey → ℕ
bucket_for key = (place 1 key).bucket

-- the flows of the buckets that the choices give the group, one bucket after another
unfoldable pub flows_in : (choices : List ℕ) → List (List Flow) → (group : ℕ) → List Flow
flows_in choices buckets group =
    flat_map (λ (bucket : ℕ). slice_index_or buckets bucket []) (filter (λ (bucket : ℕ). group_of choices bucket == group) (range_with_len 0 256))

-- these flows for each of the 64 groups
unfoldable pub maps_of : (choices : List ℕ) → List (List Flow) → List (List Flow)
maps_of choices buckets = map (flows_in choices buckets) (range_with_len 0 64)

-- the block by its groups
abbrev pub part_in : Stock → Part
part_in stock = record { choices = stock.choices; maps = maps_of stock.choices stock.arena.buckets; rows = stock.rows }

-- the flows of a group of the block that stand in this bucket, in their order
abbrev pub standing_in : Part → (group bucket : ℕ) → List Flow
standing_in part group bucket = filter (λ (flow : Flow). bucket_for flow.key == bucket) (map_in part group)

-- no group but this one has another map
abbrev pub ChangesGroup : (before after : Part) → (group : ℕ) → Type 0
ChangesGroup before after group = after.maps ≡ slice_set before.maps group (map_in after group)

-- each flow stands in the bucket of its key
abbrev pub ArePlaced : List (List Flow) → Type 0
ArePlaced buckets = (bucket : ℕ) → All (λ (flow : Flow). bucket_for flow.key ≡ bucket) (slice_index_or buckets bucket [])

-- the block has a list for each bucket and a number of rows for each group, each flow stands in its bucket, and the totals
-- are kept
pub record IsCounted (kept_keys kept_used : ℕ) (stock : Stock) : Type 0 where
  pub one_list_each : length stock.arena.buckets ≡ 256
  pub one_number_each : length stock.rows ≡ 64
  pub placed : ArePlaced stock.arena.buckets
  pub keys : kept_keys ≡ item_count stock.arena
  pub used : kept_used ≡ rows_taken (part_in stock)
