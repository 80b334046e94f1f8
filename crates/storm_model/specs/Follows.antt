-- What stands at a node's table and FIB of an owner: what the owner's changes say, after each of them.
use Rattle.std.specs.Prelude.{◌≡◌, ◌⊎◌, ℕ, ◌<◌, ◌≤◌, List, [], length, take}
use Rattle.flow_types.specs.declared.record.Flow.{Flow}
use Rattle.flow_types.specs.Size.{Size, owners_in}
use Rattle.group_search.specs.declared.published.Publication.{Publication}
use Rattle.group_history.specs.declared.change.Change.{Change}
use Rattle.delta_codec.specs.declared.message.FibMessage.{FibMessage}
use Rattle.replica_shard.specs.Shard.{shard_after}
use Rattle.replica_shard.specs.Store.{ShardStore, shard_state_of}
use Rattle.delta_codec.specs.Messages.{messages_after}
use Rattle.partial_fib.specs.Fib.{fib_after}
use Rattle.partial_fib.specs.Store.{state_of}
use Rattle.run_model.specs.State.{ClusterOpening, Journals, journal_of}
use Rattle.storm_model.specs.Lists.{Lists, Parts, with_list}

-- the records are those of the changes: after any number of the first of them the table is that after as many changes
pub record TableFollows (size : Size) (owner : ℕ) (flows : List Flow) (table : ShardStore) (list : List Publication) (changes : List Change) : Type 0 where
  pub many : length list ≡ length changes
  pub each : (turns : ℕ) → shard_state_of (with_list table (take turns list)) ≡ shard_after size owner flows (take turns changes)

-- the turns are those of the changes
abbrev pub FibFollows : Size → (node owner : ℕ) → List Flow → List FibMessage → List Change → Type 0
FibFollows size node owner flows turns changes = turns ≡ messages_after size node owner flows [] changes

-- ---- all tables and FIBs

-- the tables and FIBs are those of the opening, before any turn
pub record AreOpenedParts (opened : ClusterOpening) (parts : Parts) : Type 0 where
  pub tables : (node owner : ℕ) → node < opened.size.nodes → owner < owners_in opened.size
      → shard_state_of (with_list (parts.tables node owner) []) ≡ shard_after opened.size owner opened.flows []
  pub fibs : (node owner : ℕ) → node < opened.size.nodes → owner < owners_in opened.size
      → state_of (parts.fibs node owner) ≡ fib_after opened.size node owner opened.flows []

-- the lists are those of the turns of these journals, and there are no others
pub record HaveTaken (opened : ClusterOpening) (parts : Parts) (journals : Journals) (lists : Lists) : Type 0 where
  pub tables : (node owner : ℕ) → node < opened.size.nodes → owner < owners_in opened.size
      → TableFollows opened.size owner opened.flows (parts.tables node owner) (lists.tables node owner) (journal_of journals owner)
  pub fibs : (node owner : ℕ) → node < opened.size.nodes → owner < owners_in opened.size
      → FibFollows opened.size node owner opened.flows (lists.fibs node owner) (journal_of journals owner)
  pub no_tables : (node owner : ℕ) → (opened.size.nodes ≤ node) ⊎ (owners_in opened.size ≤ owner) → lists.tables node owner ≡ []
  pub no_fibs : (node owner : ℕ) → (opened.size.nodes ≤ node) ⊎ (owners_in opened.size ≤ owner) → lists.fibs node owner ≡ []
