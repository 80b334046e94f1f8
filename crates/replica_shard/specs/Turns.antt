-- What the messages of an owner's changes make of a shard.
use Rattle.std.specs.Prelude.{ℕ, ◌≡◌, ◌+◌, ◌≤◌, ◌++◌, List, [], ◌∷◌, All, Some, length, fold, map, take}
use Rattle.std.specs.List.{slice_get}
use Rattle.flow_types.specs.declared.key.FlowKey.{FlowKey}
use Rattle.flow_types.specs.declared.record.Flow.{Flow}
use Rattle.flow_types.specs.Size.{Size}
use Rattle.hash_family.specs.Hash.{place}
use Rattle.group_search.specs.Home.{home}
use Rattle.group_search.specs.Owned.{IsOwned}
use Rattle.group_history.specs.declared.change.Change.{Change}
use Rattle.group_history.specs.Journal.{change_count}
use Rattle.group_history.specs.History.{content_after}
use Rattle.delta_codec.specs.declared.message.TableMessage.{TableMessage}
use Rattle.delta_codec.specs.Deltas.{delta_told, deltas}
use Rattle.delta_codec.specs.Messages.{IsTableMessage, IsTableMessageOf}
use Rattle.replica_shard.specs.Owners.{publication_of}
use Rattle.group_search.specs.Decoding.{decoded}
use Rattle.replica_shard.specs.Shard.{home_in_state, route_in_state, shard_after, with_content}
use Rattle.replica_shard.specs.Store.{ShardStore, shard_state_of}
use Rattle.delta_codec.specs.Journals.{IsOfOwner}

-- a shard before a change becomes the shard after it by the change's message
abbrev pub TableTurnsGoOn : Type 0
TableTurnsGoOn = (size : Size) (owner : ℕ) (flows : List Flow) (before : List Change) (change : Change) (message : TableMessage)
    → IsTableMessage size owner flows before change message → IsOfOwner size owner change
    → with_content (shard_after size owner flows before) message ≡ shard_after size owner flows (before ++ change ∷ [])

-- these are the messages of an owner's first turns, in their order
abbrev pub AreTableMessagesOf : Size → (owner : ℕ) → List Flow → List Change → List TableMessage → Type 0
AreTableMessagesOf size owner flows changes messages =
    (i : ℕ) (message : TableMessage) → slice_get messages i ≡ Some message → IsTableMessageOf size owner flows changes (i + 1) message

-- the opened shard that took the messages of an owner's first turns is the shard after these turns
abbrev pub TurnsMakeTable : Type 0
TurnsMakeTable = (size : Size) (owner : ℕ) (flows : List Flow) (changes : List Change) (messages : List TableMessage)
    → All (IsOfOwner size owner) changes → AreTableMessagesOf size owner flows changes messages
    → fold with_content (shard_after size owner flows []) messages ≡ shard_after size owner flows (take (length messages) changes)

-- the records of an owner's first messages, in their order, are the first of its deltas
abbrev pub TurnsTellDeltas : Type 0
TurnsTellDeltas = (size : Size) (owner : ℕ) (flows : List Flow) (changes : List Change) (messages : List TableMessage)
    → AreTableMessagesOf size owner flows changes messages
    → map delta_told (map publication_of messages) ≡ take (length messages) (deltas size flows changes)

-- the shard is that after its owner's first turns, and its records tell as many of the owner's deltas
pub record IsAfterTurns (size : Size) (owner : ℕ) (flows : List Flow) (changes : List Change) (turns : ℕ) (shard : ShardStore) : Type 0 where
  pub state : shard_state_of shard ≡ shard_after size owner flows (take turns changes)
  pub tells : map delta_told shard.list ≡ take turns (deltas size flows changes)

-- at any first part of the records of an owner's first messages, so whatever a reader may have seen of them, the opened shard
-- is that after as many turns
abbrev pub PrefixesAreTurns : Type 0
PrefixesAreTurns = (size : Size) (owner : ℕ) (flows : List Flow) (changes : List Change) (messages : List TableMessage) (opened : ShardStore)
    → All (IsOfOwner size owner) changes → AreTableMessagesOf size owner flows changes messages
    → shard_state_of (record opened { list = [] }) ≡ shard_after size owner flows []
    → (turns : ℕ) → turns ≤ length messages
    → IsAfterTurns size owner flows changes turns (record opened { list = take turns (map publication_of messages) })

-- after changes of its owner a shard has the keys of the owner's blocks at the homes that the flows give them
abbrev pub HomesStay : Type 0
HomesStay = (size : Size) (owner : ℕ) (flows : List Flow) (changes : List Change) (key : FlowKey) → 1 ≤ size.blocks → IsOwned size owner key
    → home_in_state (shard_after size owner flows changes) (place size.blocks key) ≡ home size.blocks flows key

-- and sends them where the canonical record of the map of their group sends them; the version is the number of the group's changes
abbrev pub RoutesFollowChanges : Type 0
RoutesFollowChanges = (size : Size) (owner : ℕ) (flows : List Flow) (changes : List Change) (key : FlowKey) → 1 ≤ size.blocks → IsOwned size owner key
    → let at = home size.blocks flows key in
    route_in_state (shard_after size owner flows changes) (place size.blocks key) key
    ≡ record { version = change_count at changes; node = decoded size key (content_after size flows changes at) }
