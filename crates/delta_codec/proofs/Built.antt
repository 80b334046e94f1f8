-- What the images say that the flows of a cluster give.
use Rattle.std.proofs.Common.{◌≡◌, ℕ, ◌<◌, ◌≤◌, List, [], length, Some, ◌∙◌, arith, get_or, sym}
use Rattle.std.specs.Prelude.{slice_index_or, All}
use Rattle.std.proofs.lemmas.Option.{slice_get-get_or}
use Rattle.flow_types.specs.declared.key.FlowKey.{FlowKey}
use Rattle.flow_types.specs.declared.record.Flow.{Flow}
use Rattle.flow_types.specs.Size.{Size, IsShape}
use Rattle.flow_types.specs.Map.{AreDistinct}
use Rattle.hash_family.specs.Hash.{place}
use Rattle.block_layout.specs.Candidate.{candidate}
use Rattle.block_layout.specs.Limits.{group_count}
use Rattle.group_search.specs.Build.{IsBuild}
use Rattle.group_search.specs.Home.{choices, group_of, home, is_home, opening}
use Rattle.group_search.specs.Image.{Image}
use Rattle.group_search.specs.declared.record.GroupRecord.{GroupRecord}
use Rattle.group_search.specs.declared.record.GroupRecord.TheVariants.{Fallback}
use Rattle.group_search.specs.Records.{AreHandled, record_of}
use Rattle.group_search.proofs.EachFlow.{routes_each_flow}
use Rattle.delta_codec.specs.Routed.{routed}
use Rattle.delta_codec.proofs.Routes.{routed_first}
use Rattle.std.proofs.lemmas.List.Elements.{All-filter}
use Rattle.group_search.proofs.NodesBelow.{decoded_below}

abbrev pub no_image : Image
no_image = record { choices = []; records = [] }

abbrev no_record : GroupRecord
no_record = Fallback []

abbrev pub image_at : List Image → ℕ → Image
image_at images block = slice_index_or images block no_image

pub group_below : (bucket choice : ℕ) → candidate bucket choice < group_count
unfolding candidate
group_below bucket choice = omega arith

pub block_below : (blocks : ℕ) (key : FlowKey) → 1 ≤ blocks → (place blocks key).block < blocks
unfolding place
block_below blocks key some = omega arith

-- the record of a key's home is there
record_is : (size : Size) (flows : List Flow) (images : List Image) (key : FlowKey) → 1 ≤ size.blocks → IsBuild size flows images
    → (content : GroupRecord) × (record_of size flows (home size.blocks flows key) ≡ Some content)
unfolding home
record_is size flows images key blocks build =
    let block = (place size.blocks key).block in
    let bucket = (place size.blocks key).bucket in
    let image = build.each block no_image (block_below size.blocks key blocks) in
    let group = group_of (choices size.blocks block flows) bucket in
    let low : group < group_count = group_below bucket _ in
    let one_each = image.one_each in
    let records = (image_at images block).records in
    let within : group < length records = omega arith in
    (slice_index_or records group no_record, sym (image.records group low) ∙ slice_get-get_or records group no_record within)

pub routed_to_handlers : (size : Size) (flows : List Flow) (images : List Image) → IsShape size.nodes size.blocks → AreDistinct flows → AreHandled size.nodes flows
    → IsBuild size flows images → All (λ (flow : Flow). routed size flows [] 0 flow.key ≡ Some flow.node) flows
routed_to_handlers size flows images shape distinct handled build = λ k d low.
    let flow = get_or flows k d in
    let there = record_is size flows images flow.key (omega (arith, shape.enough_blocks)) build in
    rw (routed_first size flows flow.key, there.1) (routes_each_flow size flows shape distinct handled k d low there.0 there.1)

pub routed_below : (size : Size) (flows : List Flow) (key : FlowKey) (node : ℕ) → AreHandled size.nodes flows → routed size flows [] 0 key ≡ Some node → node < size.nodes
unfolding record_of opening
routed_below size flows key node handled is =
    decoded_below size (opening size.blocks flows (home size.blocks flows key)) key node
    (All-filter (λ (other : Flow). is_home (home size.blocks flows other.key) (home size.blocks flows key)) (λ (flow : Flow). flow.node < size.nodes) flows handled)
    (sym (routed_first size flows key) ∙ is)
