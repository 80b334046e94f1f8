-- Where keys have their home: a block of the table, and a group of it.
use Rattle.std.specs.Prelude.{ℕ, ◌==◌, ◌&&◌, Bool, List, map, filter, count_by, slice_index}
use Rattle.std.specs.List.{range_with_len}
use Rattle.flow_types.specs.declared.key.FlowKey.{FlowKey}
use Rattle.flow_types.specs.declared.record.Flow.{Flow}
use Rattle.hash_family.specs.Hash.{place}
use Rattle.block_layout.specs.Candidate.{candidate}
use Rattle.block_layout.specs.Dealing.{choices_of}
use Rattle.block_layout.specs.Limits.{bucket_count}

-- a group of a block
pub record Home : Type 0 where
  pub block : ℕ
  pub group : ℕ

-- the flow's key is in the block
abbrev pub is_in : (blocks block : ℕ) → Flow → Bool
is_in blocks block flow = (place blocks flow.key).block == block

-- the flow's key is in the bucket
abbrev pub is_in_bucket : (blocks bucket : ℕ) → Flow → Bool
is_in_bucket blocks bucket flow = (place blocks flow.key).bucket == bucket

-- the flows of a block, in their order
unfoldable pub flows_of : (blocks block : ℕ) → List Flow → List Flow
flows_of blocks block flows = filter (is_in blocks block) flows

-- how many of a block's flows each bucket has
unfoldable pub sizes : (blocks block : ℕ) → List Flow → List ℕ
sizes blocks block flows = map (λ (bucket : ℕ). count_by (is_in_bucket blocks bucket) (flows_of blocks block flows)) (range_with_len 0 bucket_count)

-- which of its candidates each bucket of a block is assigned to
unfoldable pub choices : (blocks block : ℕ) → List Flow → List ℕ
choices blocks block flows = choices_of (sizes blocks block flows)

-- the group of a bucket under these choices
abbrev pub group_of : (choices : List ℕ) → (bucket : ℕ) → ℕ
group_of choices bucket = candidate bucket (slice_index choices bucket)

-- the key's block, and the group of its bucket under the choices that the flows give this block
unfoldable pub home : (blocks : ℕ) → List Flow → FlowKey → Home
home blocks flows key = record {
  block = (place blocks key).block;
  group = group_of (choices blocks (place blocks key).block flows) (place blocks key).bucket;
}

abbrev pub is_home : Home → Home → Bool
is_home a b = (a.block == b.block) && (a.group == b.group)

-- the flows whose keys have this home, in their order
unfoldable pub opening : (blocks : ℕ) → List Flow → Home → List Flow
opening blocks flows at = filter (λ (flow : Flow). is_home (home blocks flows flow.key) at) flows
