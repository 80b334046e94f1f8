-- Where a key is sent after an owner's changes.
use Rattle.std.proofs.Common.{◌≡◌, ℕ, List, Option, sym}
use Rattle.flow_types.specs.declared.key.FlowKey.{FlowKey}
use Rattle.group_search.specs.Decoding.{decoded}
use Rattle.group_search.specs.Records.{content_of}
use Rattle.group_history.specs.declared.change.Change.{Change}
use Rattle.group_history.specs.History.{map_now}
use Rattle.delta_codec.specs.Routed.{routed}
use Rattle.delta_codec.proofs.Routes.{routed_last}
use Rattle.run_model.specs.Packets.{version_after}
use Rattle.run_model.specs.State.{ClusterOpening, home_of_key}

-- the node to which a key is sent once its group has all of these changes
abbrev pub sent_after : ClusterOpening → List Change → FlowKey → Option ℕ
sent_after opened changes key = routed opened.size opened.flows changes (version_after opened changes key) key

-- the record of its group's map sends it there
pub sends_there : (opened : ClusterOpening) (changes : List Change) (key : FlowKey)
    → decoded opened.size key (content_of opened.size.nodes (map_now opened.size opened.flows changes (home_of_key opened key))) ≡ sent_after opened changes key
sends_there opened changes key = sym (routed_last opened.size opened.flows key changes)
