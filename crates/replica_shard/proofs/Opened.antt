-- What a shard says that is opened with the images of all blocks that flows give, and where keys are sent after changes.
use Rattle.std.proofs.Common.{ℕ, ◌≡◌, ◌∙◌, ◌/◌, ◌%◌, ◌≤◌, Bool, true, false, ◌&&◌, cond, List, [], length, Option, Some, None, refl, ap, arith}
use Rattle.std.specs.Prelude.{nat_lt, slice_index}
use Rattle.std.specs.List.{slice_get}
use Rattle.std.proofs.lemmas.Bool.{and_from, cond-true, lt-ltb, ltb-false, ltb-true}
use Rattle.std.proofs.lemmas.Option.{slice_get-get_or, slice_get_past}
use Rattle.flow_types.specs.declared.key.FlowKey.{FlowKey}
use Rattle.flow_types.specs.declared.record.Flow.{Flow}
use Rattle.flow_types.specs.Size.{Size}
use Rattle.hash_family.specs.Hash.{place}
use Rattle.group_search.specs.Build.{IsBuild}
use Rattle.group_search.specs.Home.{Home, choices, group_of, home}
use Rattle.group_search.specs.Image.{Image}
use Rattle.group_search.specs.Owned.{IsOwned}
use Rattle.group_search.specs.Records.{record_of}
use Rattle.group_history.specs.declared.change.Change.{Change}
use Rattle.group_history.specs.Change.{changed_group}
use Rattle.group_history.specs.History.{changed, now, content_after}
use Rattle.group_history.specs.Journal.{change_count, concerning}
use Rattle.group_search.specs.Decoding.{decoded}
use Rattle.replica_shard.specs.Shard.{home_in_state, is_owned_block, is_owned_group, route_in_state, shard_after}
use Rattle.replica_shard.specs.Store.{AreOwnersImages, ShardStore, choices_shown, record_shown, shard_state_of}
use Rattle.delta_codec.specs.Journals.{IsOfOwner}
use Rattle.delta_codec.proofs.Built.{block_below, group_below, image_at, no_image}
use Rattle.replica_shard.proofs.OwnedBlocks.{its_place, of_owner, owned_block, place_within}

-- before a change a group has the record of its flows
first_record : (size : Size) (flows : List Flow) (at : Home) → record_of size flows at ≡ content_after size flows [] at
unfolding record_of now changed concerning
first_record size flows at = refl

no_changes : (at : Home) → 0 ≡ change_count at []
unfolding change_count concerning
no_changes at = refl

module _ (size : Size) (flows : List Flow) (owner : ℕ) (images own : List Image) (some : 1 ≤ size.nodes) (build : IsBuild size flows images)
    (are : AreOwnersImages size owner images own) where
  abbrev opened : ShardStore
  opened = record { size = size; owner = owner; images = own; list = [] }

  -- the image of a block of the owner's is that of the build
  image_there : (number : ℕ) → is_owned_block size owner number ≡ true → slice_get own (number / size.nodes) ≡ Some (image_at images number)
  image_there number is_own =
      let is = of_owner size owner number is_own in
      let one_each = build.one_each in
      let within = is.0 in
      are.each (number / size.nodes) (place_within size.nodes owner number size.blocks (length own) some is.1 is.0 are.enough)
      ∙ ap (slice_get images) (its_place size.nodes owner number some is.1)
      ∙ slice_get-get_or images number no_image (omega arith)

  choices_built : (number : ℕ) (is_own : Bool) → is_owned_block size owner number ≡ is_own
      → choices_shown (cond is_own (slice_get own (number / size.nodes)) None) ≡ cond is_own (choices size.blocks number flows) []
  choices_built number true is_own =
      ap choices_shown (image_there number is_own) ∙ (build.each number no_image (of_owner size owner number is_own).0).choices
  choices_built number false is_own = refl

  record_built : (at : Home) (is_own low : Bool) → is_owned_block size owner at.block ≡ is_own → nat_lt at.group 64 ≡ low
      → record_shown (cond is_own (slice_get own (at.block / size.nodes)) None) at.group ≡ cond (is_own && low) (content_after size flows [] at) None
  record_built at true true is_own low =
      ap (λ (image : Option Image). record_shown image at.group) (image_there at.block is_own)
      ∙ (build.each at.block no_image (of_owner size owner at.block is_own).0).records at.group (ltb-true at.group 64 low)
      ∙ first_record size flows at
  record_built at true false is_own past =
      let image = build.each at.block no_image (of_owner size owner at.block is_own).0 in
      let one_each = image.one_each in
      ap (λ (image : Option Image). record_shown image at.group) (image_there at.block is_own)
      ∙ slice_get_past (image_at images at.block).records at.group (omega (arith, ltb-false at.group 64 past))
  record_built at false low is_own e = refl

  pub state_built : shard_state_of opened ≡ shard_after size owner flows []
  state_built = λ i. record {
    size = size;
    owner = owner;
    choices = λ (number : ℕ). choices_built number _ refl i;
    records = λ (at : Home). record_built at _ _ refl refl i;
    versions = λ (at : Home). no_changes at i;
    taken = 0;
  }

-- ---- what a key is told after changes

module _ (size : Size) (owner : ℕ) (flows : List Flow) (changes : List Change) (key : FlowKey) (some : 1 ≤ size.blocks) (owns : IsOwned size owner key) where
  own : is_owned_block size owner (place size.blocks key).block ≡ true
  own = owned_block size owner (place size.blocks key).block (block_below size.blocks key some) owns

  -- the home of a key in a shard is that of the flows
  pub home_after : home_in_state (shard_after size owner flows changes) (place size.blocks key) ≡ home size.blocks flows key
  unfolding home
  home_after = λ i. record {
    block = (place size.blocks key).block;
    group = ap (λ (cs : List ℕ). group_of cs (place size.blocks key).bucket) (cond-true _ (choices size.blocks (place size.blocks key).block flows) [] own) i;
  }

  owned_home : is_owned_group size owner (home size.blocks flows key) ≡ true
  unfolding home
  owned_home =
      and_from _ _ own (lt-ltb _ _ (group_below (place size.blocks key).bucket (slice_index (choices size.blocks (place size.blocks key).block flows) (place size.blocks key).bucket)))

  -- it is sent where the canonical record of its group's map sends it, and the version is the number of the group's changes
  pub route_after : route_in_state (shard_after size owner flows changes) (place size.blocks key) key
      ≡ record { version = change_count (home size.blocks flows key) changes; node = decoded size key (content_after size flows changes (home size.blocks flows key)) }
  route_after = λ i. record {
    version = ap (λ (at : Home). change_count at changes) home_after i;
    node = (ap (λ (at : Home). decoded size key ((shard_after size owner flows changes).records at)) home_after
        ∙ ap (decoded size key) (cond-true _ (content_after size flows changes (home size.blocks flows key)) None owned_home)) i;
  }

-- the home of a key of the owner's is a group of one of its blocks
pub of_owner_at_home : (size : Size) (owner : ℕ) (flows : List Flow) (change : Change) → 1 ≤ size.blocks → home size.blocks flows change.key ≡ changed_group change
    → change.block % size.nodes ≡ owner → IsOfOwner size owner change
unfolding home
of_owner_at_home size owner flows change some at_home owned =
    let bucket = (place size.blocks change.key).bucket in
    let block : (place size.blocks change.key).block ≡ change.block = ap (λ (at : Home). at.block) at_home in
    let group : group_of (choices size.blocks (place size.blocks change.key).block flows) bucket ≡ change.group = ap (λ (at : Home). at.group) at_home in
    record {
      within = omega (arith, block_below size.blocks change.key some, block);
      owned = owned;
      in_block = omega (arith, group_below bucket (slice_index (choices size.blocks (place size.blocks change.key).block flows) bucket), group);
    }
