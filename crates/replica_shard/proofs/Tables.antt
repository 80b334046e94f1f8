-- The images of a build can be laid in cells.
use Rattle.std.proofs.Common.{◌≡◌, ◌∙◌, ℕ, ◌<◌, ◌≤◌, Bool, true, false, cond, List, [], length, map, get_or, Option, Some, None, refl, sym, ap, subst, arith}
use Rattle.std.specs.Prelude.{All, nat_le, sum, sum_by}
use Rattle.std.proofs.lemmas.List.{ext_get_or, get_or-map, length-map}
use Rattle.std.proofs.lemmas.List.Elements.{All-filter}
use Rattle.std.proofs.lemmas.List.FromFn.{get_or-map-range_with_len, length-map-range_with_len}
use Rattle.std.proofs.lemmas.List.Sums.{sum-map}
use Rattle.std.proofs.lemmas.Option.{slice_get-get_or}
use Rattle.flow_types.specs.declared.record.Flow.{Flow}
use Rattle.flow_types.specs.Size.{Size, value_bits}
use Rattle.block_layout.specs.Dealing.{groups}
use Rattle.group_search.specs.declared.entry.Entry.{Entry}
use Rattle.group_search.specs.declared.entry.Pair.{Pair}
use Rattle.group_search.specs.declared.record.GroupRecord.{GroupRecord}
use Rattle.group_search.specs.declared.record.GroupRecord.TheVariants.{Served, Fallback}
use Rattle.group_search.specs.Build.{IsBuild, IsImage, IsWithin, TellsTheFirst, needed, past_limit, rows_needed_in}
use Rattle.group_search.specs.Canon.{canonical, fallback, least_pairs, rows_in, served_or}
use Rattle.group_search.specs.Home.{Home, home, is_home, opening}
use Rattle.group_search.specs.Image.{Image}
use Rattle.group_search.specs.Limits.{most_rows}
use Rattle.group_search.specs.Records.{AreHandled, content_of, entries, record_of, HasNodes}
use Rattle.group_search.specs.Rows.{rows_of}
use Rattle.group_search.specs.Words.{HasBits}
use Rattle.group_search.proofs.Chosen.{are_least}
use Rattle.group_search.proofs.FirstPastLimit.{names_the_first}
use Rattle.group_search.proofs.NeededRows.{rows_of_canonical}
use Rattle.replica_shard.specs.Store.{CanBeTables}
use Rattle.group_search.proofs.NodesBelow.{content_nodes}

-- ---- a canonical record has the shape's bits

module _ (bits : ℕ) (entries : List Entry) where
  fallback_bits : (few : Bool) (content : GroupRecord) → cond few (Some (Fallback (rows_of entries))) None ≡ Some content → HasBits bits content
  fallback_bits true content e = let same : Fallback (rows_of entries) ≡ content = cc in subst (HasBits bits) same tt
  fallback_bits false content e = absurd cc

  bits_by_case : (pairs : Option (List Pair)) → least_pairs bits 0 entries ≡ pairs → (content : GroupRecord) → served_or pairs (fallback entries) ≡ Some content → HasBits bits content
  unfolding fallback
  bits_by_case (Some pairs) found content e =
      let same : Served pairs ≡ content = cc in
      subst (HasBits bits) same (are_least entries bits pairs found).one_each
  bits_by_case None none content e = fallback_bits (nat_le (length entries) most_rows) content e

  canonical_bits : (content : GroupRecord) → canonical bits entries ≡ Some content → HasBits bits content
  unfolding canonical
  canonical_bits content e = bits_by_case (least_pairs bits 0 entries) refl content e

-- ---- an image of a build

module _ (size : Size) (flows : List Flow) (block : ℕ) (image : Image) (is : IsImage size flows block image) where
  abbrev at : ℕ → Home
  at group = record { block = block; group = group }

  abbrev its_entries : ℕ → List Entry
  its_entries group = entries (opening size.blocks flows (at group))

  canonical_at : (group : ℕ) (d : GroupRecord) → group < length image.records → canonical (value_bits size.nodes) (its_entries group) ≡ Some (get_or image.records group d)
  unfolding record_of content_of
  canonical_at group d low =
      let one_each = is.one_each in
      sym (is.records group (omega arith)) ∙ slice_get-get_or image.records group d low

  image_nodes : AreHandled size.nodes flows → All (HasNodes size.nodes) image.records
  unfolding record_of opening
  image_nodes handled = λ group d low.
      let one_each = is.one_each in
      content_nodes size.nodes (opening size.blocks flows (at group))
      (All-filter (λ (flow : Flow). is_home (home size.blocks flows flow.key) (at group)) (λ (flow : Flow). flow.node < size.nodes) flows handled)
      (get_or image.records group d) (sym (is.records group (omega arith)) ∙ slice_get-get_or image.records group d low)

  image_bits : All (HasBits (value_bits size.nodes)) image.records
  image_bits = λ group d low. canonical_bits (value_bits size.nodes) (its_entries group) (get_or image.records group d) (canonical_at group d low)

  abbrev needs : List ℕ
  needs = map (rows_needed_in size flows block) groups

  rows_are : map rows_in image.records ≡ needs
  rows_are =
      let one_each = is.one_each in
      ext_get_or 0 (map rows_in image.records) needs
      (length-map image.records rows_in ∙ one_each ∙ sym (length-map-range_with_len (rows_needed_in size flows block) 0 64))
      (λ group low.
      let there : group < length image.records = omega (arith, length-map image.records rows_in) in
      get_or-map rows_in image.records group (Served []) 0 there
      ∙ rows_of_canonical (its_entries group) (value_bits size.nodes) (get_or image.records group (Served [])) (canonical_at group (Served []) there)
      ∙ sym (get_or-map-range_with_len (rows_needed_in size flows block) 0 64 group group 0 (omega arith) (omega arith)))

  image_rows : IsWithin size flows block → sum_by rows_in image.records ≤ 64
  unfolding needed
  image_rows within =
      let few = within.few_rows in
      omega (arith, sum-map rows_in image.records, ap sum rows_are, few)

-- ---- all of them

within_all : (size : Size) (flows : List Flow) → past_limit size flows ≡ None → (block : ℕ) → block < size.blocks → IsWithin size flows block
within_all size flows none = subst (TellsTheFirst size flows) none (names_the_first size flows)

pub can_be_tables : (size : Size) (flows : List Flow) (images : List Image) → AreHandled size.nodes flows → IsBuild size flows images → CanBeTables size images
can_be_tables size flows images handled build =
    let one_each = build.one_each in
    record {
      one_each = build.one_each;
      few_rows = λ block d low.
          image_rows size flows block (get_or images block d) (build.each block d (omega arith)) (within_all size flows build.within block (omega arith));
      bits = λ block d low. image_bits size flows block (get_or images block d) (build.each block d (omega arith));
      in_cluster = λ block d low. image_nodes size flows block (get_or images block d) (build.each block d (omega arith)) handled;
    }
