-- Where a key is sent, at the first version of its group and at the last.
use Rattle.std.proofs.Common.{◌≡◌, ◌≤◌, ℕ, List, [], ◌++◌, Option, ap}
use Rattle.std.specs.Prelude.{option_and_then}
use Rattle.flow_types.specs.declared.key.FlowKey.{FlowKey}
use Rattle.flow_types.specs.declared.record.Flow.{Flow}
use Rattle.flow_types.specs.Size.{Size}
use Rattle.group_search.specs.Decoding.{decoded}
use Rattle.group_search.specs.Home.{Home, home, opening}
use Rattle.group_search.specs.Records.{content_of, record_of}
use Rattle.group_history.specs.declared.change.Change.{Change}
use Rattle.group_history.specs.History.{map_now}
use Rattle.group_history.specs.Journal.{change_count}
use Rattle.group_history.proofs.Versions.{version_first, version_kept, version_last}
use Rattle.delta_codec.specs.Routed.{routed}

module _ (size : Size) (flows : List Flow) (key : FlowKey) where
  abbrev at_home : Home
  at_home = home size.blocks flows key

  -- before any change the record of the opening flows sends it
  pub routed_first : routed size flows [] 0 key ≡ decoded size key (record_of size flows at_home)
  unfolding routed record_of
  routed_first =
      ap (λ (there : Option (List Flow)). decoded size key (option_and_then (λ (map : List Flow). content_of size.nodes map) there))
      (version_first at_home (opening size.blocks flows at_home) [])

  -- after all changes that of the map now does
  pub routed_last : (changes : List Change)
      → routed size flows changes (change_count at_home changes) key ≡ decoded size key (content_of size.nodes (map_now size flows changes at_home))
  unfolding routed map_now
  routed_last changes =
      ap (λ (there : Option (List Flow)). decoded size key (option_and_then (λ (map : List Flow). content_of size.nodes map) there))
      (version_last at_home (opening size.blocks flows at_home) changes)

  -- later changes leave it where it was
  pub routed_kept : (changes later : List Change) (version : ℕ) → version ≤ change_count at_home changes
      → routed size flows (changes ++ later) version key ≡ routed size flows changes version key
  unfolding routed
  routed_kept changes later version there =
      ap (λ (there : Option (List Flow)). decoded size key (option_and_then (λ (map : List Flow). content_of size.nodes map) there))
      (version_kept at_home (opening size.blocks flows at_home) changes later version there)
