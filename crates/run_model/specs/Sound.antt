-- The map of each group along the owners' journals: it is a map of flows at nodes of the cluster, and it has a canonical record.
use Rattle.std.specs.Prelude.{◌≡◌, ℕ, ◌<◌, List, take, Some}
use Rattle.flow_types.specs.declared.record.Flow.{Flow}
use Rattle.flow_types.specs.Map.{AreDistinct, HaveKeyValues}
use Rattle.flow_types.specs.Size.{Size}
use Rattle.group_search.specs.declared.record.GroupRecord.{GroupRecord}
use Rattle.group_search.specs.Home.{Home}
use Rattle.group_search.specs.Records.{AreHandled, content_of}
use Rattle.group_history.specs.declared.change.Change.{Change}
use Rattle.group_history.specs.History.{map_now}
use Rattle.run_model.specs.State.{ClusterOpening, Journals, journal_of}

-- a map from keys in range to nodes below this number, with its canonical record
pub record IsSound (nodes : ℕ) (flows : List Flow) : Type 0 where
  pub distinct : AreDistinct flows
  pub handled : AreHandled nodes flows
  pub values : HaveKeyValues flows
  pub content : GroupRecord
  pub content_is : content_of nodes flows ≡ Some content

-- each group of the table has a sound map after these changes
abbrev pub AreSound : Size → List Flow → List Change → Type 0
AreSound size flows changes = (at : Home) → at.block < size.blocks → at.group < 64 → IsSound size.nodes (map_now size flows changes at)

-- so it is after any number of a journal's first changes
abbrev pub AreSoundAlong : Size → List Flow → List Change → Type 0
AreSoundAlong size flows journal = (turns : ℕ) → AreSound size flows (take turns journal)

-- and along each journal
abbrev pub AreSoundJournals : ClusterOpening → Journals → Type 0
AreSoundJournals opened journals = (owner : ℕ) → AreSoundAlong opened.size opened.flows (journal_of journals owner)
