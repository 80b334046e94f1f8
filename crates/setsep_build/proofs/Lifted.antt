-- The flows of a block where they stand, and the flows of the cluster.
use Rattle.std.proofs.Common.{ℕ, ◌≡◌, ◌≢◌, ◌∙◌, ◌<◌, ◌&&◌, Bool, true, false, List, length, map, sum, ap, refl, arith}
use Rattle.std.specs.Prelude.{filter, count_by, slice_index}
use Rattle.std.specs.List.{range_with_len}
use Rattle.std.proofs.lemmas.Bool.{eqb-true}
use Rattle.std.proofs.lemmas.List.{length-map}
use Rattle.std.proofs.lemmas.List.Kept.{AllPairs-filter}
use Rattle.std.proofs.lemmas.List.FromFn.{get_or-map-range_with_len}
use Rattle.flow_types.specs.declared.record.Flow.{Flow}
use Rattle.flow_types.specs.Key.{number}
use Rattle.flow_types.specs.Size.{Size, value_bits}
use Rattle.flow_types.specs.Map.{AreDistinct, HaveDistinctKeys}
use Rattle.hash_family.specs.Hash.{place}
use Rattle.block_layout.specs.Dealing.{choices_of}
use Rattle.block_layout.specs.Limits.{bucket_count, group_count}
use Rattle.group_search.specs.Home.{choices, flows_of, group_of, home, is_home, is_in, is_in_bucket, opening, sizes}
use Rattle.group_search.specs.Records.{content_of, entries, entry_of, record_of}
use Rattle.group_search.specs.Build.{IsImage, needed, rows_needed}
use Rattle.group_search.specs.Image.{Image}
use Rattle.group_search.proofs.Mapped.{all_pairs_mapped}
use Rattle.setsep_build.specs.declared.placed.Placed.{Placed}
use Rattle.setsep_build.specs.Placing.{entry_in, gathered, groups_of, is_bucket, is_group, placed, placed_key, sizes_in}
use Rattle.setsep_build.specs.Block.{IsImageOf, block_choices, needed_below, needed_in, group_record, needed_at}
use Rattle.setsep_build.proofs.Lists.{count_mapped, filter_both, filter_mapped, map_twice, same_map}

-- what is read past the end of a list of flows
abbrev pub no_flow : Flow
no_flow = record {
  key = record { source = 0; destination = 0; source_port = 0; destination_port = 0; protocol = 0 };
  node = 0;
  info = record { teid = 0; base = 0 };
}

-- the flows of a block where they stand, as they came
unfoldable pub opened : (blocks block : ℕ) → List Flow → List Placed
opened blocks block flows = map (placed blocks) (flows_of blocks block flows)

bucket_below : (blocks : ℕ) (flow : Flow) → (place blocks flow.key).bucket < bucket_count
unfolding place
bucket_below blocks flow = omega arith

-- the group of a bucket, looked up
group_at : (picks : List ℕ) (bucket : ℕ) → bucket < bucket_count → slice_index (groups_of picks) bucket ≡ group_of picks bucket
unfolding groups_of
group_at picks bucket low = get_or-map-range_with_len (group_of picks) 0 bucket_count bucket bucket 0 low (omega arith)

module _ (blocks block : ℕ) (flows : List Flow) where
  pub same_length : length (opened blocks block flows) ≡ length (flows_of blocks block flows)
  unfolding opened
  same_length = length-map (flows_of blocks block flows) (placed blocks)

  pub same_sizes : sizes_in (opened blocks block flows) ≡ sizes blocks block flows
  unfolding opened sizes_in sizes
  same_sizes =
      same_map (λ (bucket : ℕ). count_by (is_bucket bucket) (map (placed blocks) (flows_of blocks block flows)))
      (λ (bucket : ℕ). count_by (is_in_bucket blocks bucket) (flows_of blocks block flows))
      (λ bucket. count_mapped (placed blocks) (is_bucket bucket) (flows_of blocks block flows)) (range_with_len 0 bucket_count)

  pub same_choices : block_choices (opened blocks block flows) ≡ choices blocks block flows
  unfolding block_choices choices
  same_choices = ap choices_of same_sizes

  pub apart : AreDistinct flows → HaveDistinctKeys placed_key (opened blocks block flows)
  unfolding opened flows_of
  apart distinct =
      all_pairs_mapped (λ (a : Placed) (b : Placed). number a.key ≢ number b.key) (placed blocks) no_flow (filter (is_in blocks block) flows)
      (AllPairs-filter (λ (a : Flow) (b : Flow). number a.key ≢ number b.key) (is_in blocks block) flows distinct)

  -- a flow of the block has the home of its bucket's group
  home_test-case : (group : ℕ) (flow : Flow) (here : Bool) → is_in blocks block flow ≡ here
      → is_home (home blocks flows flow.key) (record { block = block; group = group })
      ≡ here && is_group (groups_of (choices blocks block flows)) group (placed blocks flow)
  unfolding home
  home_test-case group flow true here =
      let same : (place blocks flow.key).block ≡ block = eqb-true _ _ here in
      rw (here, same, group_at (choices blocks block flows) (place blocks flow.key).bucket (bucket_below blocks flow)) refl
  home_test-case group flow false here = rw here refl

  home_test : (group : ℕ) (flow : Flow) → is_home (home blocks flows flow.key) (record { block = block; group = group })
      ≡ is_in blocks block flow && is_group (groups_of (choices blocks block flows)) group (placed blocks flow)
  home_test group flow = home_test-case group flow (is_in blocks block flow) refl

  -- what is gathered of a group is its opening, in the same order
  pub same_entries : (group : ℕ) → gathered (groups_of (choices blocks block flows)) group (opened blocks block flows)
      ≡ entries (opening blocks flows (record { block = block; group = group }))
  unfolding gathered opened flows_of opening
  same_entries group =
      let test : Placed → Bool = is_group (groups_of (choices blocks block flows)) group in
      let mine : List Flow = filter (is_in blocks block) flows in
      ap (map entry_in) (filter_mapped (placed blocks) test mine)
      ∙ map_twice (placed blocks) entry_in (filter (λ (flow : Flow). test (placed blocks flow)) mine)
      ∙ ap (map entry_of)
      (filter_both (is_in blocks block) (λ (flow : Flow). test (placed blocks flow))
      (λ (flow : Flow). is_home (home blocks flows flow.key) (record { block = block; group = group })) (home_test group) flows)

module _ (size : Size) (block : ℕ) (flows : List Flow) where
  all : List Placed
  all = opened size.blocks block flows

  same_group : (group : ℕ) → gathered (groups_of (block_choices (opened size.blocks block flows))) group (opened size.blocks block flows)
      ≡ entries (opening size.blocks flows (record { block = block; group = group }))
  same_group group = rw (same_choices size.blocks block flows) (same_entries size.blocks block flows group)

  pub same_needed : needed_in (value_bits size.nodes) (opened size.blocks block flows) ≡ needed size flows block
  unfolding needed_in needed_below needed
  same_needed =
      ap sum
      (same_map (needed_at (value_bits size.nodes) (groups_of (block_choices (opened size.blocks block flows))) (opened size.blocks block flows))
      (λ (group : ℕ). rows_needed (value_bits size.nodes) (entries (opening size.blocks flows (record { block = block; group = group }))))
      (λ group. ap (rows_needed (value_bits size.nodes)) (same_group group)) (range_with_len 0 group_count))

  same_record : (group : ℕ) → group_record (value_bits size.nodes) (groups_of (block_choices (opened size.blocks block flows))) (opened size.blocks block flows) group
      ≡ record_of size flows (record { block = block; group = group })
  unfolding record_of content_of
  same_record group = rw (same_group group) refl

  pub lifted_image : (image : Image) → IsImageOf (value_bits size.nodes) (opened size.blocks block flows) image → IsImage size flows block image
  lifted_image image is = record {
    choices = is.choices ∙ same_choices size.blocks block flows;
    one_each = is.one_each;
    records = λ group low. is.records group low ∙ same_record group;
  }
