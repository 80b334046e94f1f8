-- The version of a key's group after the first turns of its owner.
use Rattle.std.proofs.Common.{◌≡◌, ◌∙◌, ℕ, List, take, sym, ap, arith}
use mathlib.Core.List.{IsPrefix}
use Rattle.flow_types.proofs.Prefixes.{prefix_trans}
use Rattle.flow_types.specs.declared.key.FlowKey.{FlowKey}
use Rattle.group_search.specs.Home.{opening}
use Rattle.group_history.specs.declared.change.Change.{Change}
use Rattle.group_history.specs.History.{at_version, map_now}
use Rattle.group_history.proofs.Versions.{version_kept, version_last}
use Rattle.delta_codec.specs.Routed.{routed}
use Rattle.delta_codec.proofs.Routes.{routed_kept}
use Rattle.run_model.specs.Allowed.{IsAtVersion}
use Rattle.run_model.specs.Packets.{version_after}
use Rattle.run_model.specs.State.{ClusterOpening, home_of_key}
use Rattle.run_model.proofs.Cuts.{take-grows}
use Rattle.run_model.proofs.Parts.{sent_after}

module _ (opened : ClusterOpening) (journal end : List Change) (grows : IsPrefix journal end) (key : FlowKey) (turns : ℕ) where
  pub first-grows : IsPrefix (take turns journal) end
  first-grows = prefix_trans (take turns journal) journal end (take-grows journal turns) grows

  -- the group's map after the turns is the one at this version, however the journal goes on
  pub at-first : IsAtVersion opened end key (version_after opened (take turns journal) key) (map_now opened.size opened.flows (take turns journal) (home_of_key opened key))
  unfolding map_now
  at-first =
      let first = take turns journal in
      let version = version_after opened first key in
      let opens = opening opened.size.blocks opened.flows (home_of_key opened key) in
      ap (λ (changes : List Change). at_version opens changes (home_of_key opened key) version) (sym first-grows.1)
      ∙ version_kept (home_of_key opened key) opens first first-grows.0 version (omega arith)
      ∙ version_last (home_of_key opened key) opens first

  -- and at this version the key is routed as after the turns
  pub routed-first : routed opened.size opened.flows end (version_after opened (take turns journal) key) key ≡ sent_after opened (take turns journal) key
  routed-first =
      let first = take turns journal in
      let version = version_after opened first key in
      ap (λ (changes : List Change). routed opened.size opened.flows changes version key) (sym first-grows.1)
      ∙ routed_kept opened.size opened.flows key first first-grows.0 version (omega arith)
