-- What a FIB has of a key is what its node answers by the map of the key's group.
use Rattle.std.specs.Prelude.{ℕ, ◌≡◌, ◌%◌, List}
use Rattle.flow_types.specs.declared.key.FlowKey.{FlowKey}
use Rattle.flow_types.specs.declared.record.Flow.{Flow}
use Rattle.flow_types.specs.Key.{number, IsKeyValue}
use Rattle.flow_types.specs.Map.{AreDistinct, HaveKeyValues}
use Rattle.flow_types.specs.Size.{Size}
use Rattle.group_search.specs.Home.{home, opening}
use Rattle.group_history.specs.declared.change.Change.{Change}
use Rattle.group_history.specs.History.{now}
use Rattle.group_history.specs.Routes.{Answer}
use Rattle.partial_fib.specs.Fib.{record_after}
use Rattle.delta_codec.specs.Journals.{IsJournalOf}

-- what a node's FIB of an owner has of a key of the owner's blocks is what the node answers by the map of the key's group,
-- where the cluster was opened with these flows, and the owner has accepted these changes since
abbrev pub RecordsAnswer : Type 0
RecordsAnswer = (size : Size) (node owner : ℕ) (flows : List Flow) (changes : List Change) (key : FlowKey)
    → AreDistinct flows → HaveKeyValues flows → IsJournalOf size owner flows changes → IsKeyValue key → (home size.blocks flows key).block % size.nodes ≡ owner
    → let at = home size.blocks flows key in
    Answer (now (opening size.blocks flows at) changes at) node key (record_after size node owner flows changes (number key))
