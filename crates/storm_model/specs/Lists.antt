-- What the readers of one lane have seen, as lists, and how packets are answered by these.
use Rattle.std.specs.Prelude.{◌≡◌, ℕ, ◌<◌, List, [], length, take, Option, Some, None}
use mathlib.Core.List.{IsPrefix}
use Rattle.flow_types.specs.declared.key.FlowKey.{FlowKey}
use Rattle.flow_types.specs.Key.{number}
use Rattle.flow_types.specs.Size.{Size, owners_in}
use Rattle.hash_family.specs.Hash.{place}
use Rattle.group_search.specs.declared.published.Publication.{Publication}
use Rattle.group_search.specs.Home.{Home}
use Rattle.delta_codec.specs.declared.message.FibMessage.{FibMessage}
use Rattle.packet_reader.specs.declared.event.Event.{Event}
use Rattle.packet_reader.specs.declared.event.Part.TheVariants.{Table, Fib}
use Rattle.replica_shard.specs.Shard.{home_in_state, route_in_state, shard_after}
use Rattle.replica_shard.specs.Store.{ShardStore, shard_state_of}
use Rattle.partial_fib.specs.Ends.{shared_after}
use Rattle.partial_fib.specs.Fib.{FibState, fib_after}
use Rattle.delta_codec.specs.Messages.{messages_after}
use Rattle.delta_codec.specs.Journals.{IsJournalOf}
use Rattle.partial_fib.specs.Store.{FibStore, state_of}
use Rattle.run_model.specs.declared.reply.Reply.{Reply}
use Rattle.run_model.specs.declared.reply.Reply.TheVariants.{Nowhere}
use Rattle.run_model.specs.Packets.{answer_of}
use Rattle.run_model.specs.State.{Journals, ClusterOpening, journal_of}
use Rattle.storm_model.specs.Merging.{owner_of_key}
use Rattle.storm_model.specs.Stood.{Stood, all_seen}
use Rattle.storm_model.specs.Walk.{Walk}

-- of each node's table of an owner the records, and of its FIB of the owner the turns
pub record Lists : Type 0 where
  pub tables : (node owner : ℕ) → List Publication
  pub fibs : (node owner : ℕ) → List FibMessage

-- each of the readers has seen the same, and perhaps more
pub record IsLater (before after : Lists) : Type 0 where
  pub tables : (node owner : ℕ) → IsPrefix (before.tables node owner) (after.tables node owner)
  pub fibs : (node owner : ℕ) → IsPrefix (before.fibs node owner) (after.fibs node owner)

-- each node's table and FIB of an owner before the owner's first turn
pub record Parts : Type 0 where
  pub tables : (node owner : ℕ) → ShardStore
  pub fibs : (node owner : ℕ) → FibStore

-- a table that has taken these records
abbrev pub with_list : ShardStore → List Publication → ShardStore
with_list shard list = record shard { list = list }

-- the reply where an ingress sends the key so, and each node's FIB of the key's owner says so
abbrev pub reply_routed : (version : ℕ) → (to : Option ℕ) → (fib_of : ℕ → FibState) → Home → FlowKey → Reply
reply_routed version None fib_of at key = Nowhere version
reply_routed version (Some node) fib_of at key = answer_of node version ((fib_of node).versions at) ((fib_of node).records (number key))

-- the reply to a packet by what the lane's readers have seen
abbrev pub reply_by_lists : Size → Parts → Lists → (ingress : ℕ) → FlowKey → Reply
reply_by_lists size parts lists ingress key =
    let owner = owner_of_key size key in
    let shard = shard_state_of (with_list (parts.tables ingress owner) (lists.tables ingress owner)) in
    let route = route_in_state shard (place size.blocks key) key in
    reply_routed route.version route.node (λ (node : ℕ). shared_after (parts.fibs node owner) (lists.fibs node owner)) (home_in_state shard (place size.blocks key)) key

abbrev pub SaysByLists : Size → Parts → Lists → (ingress : ℕ) → FlowKey → Reply → Type 0
SaysByLists size parts lists ingress key reply = reply ≡ reply_by_lists size parts lists ingress key

-- the lane's walk by what its readers have seen
abbrev pub WalksByLists : Size → Parts → (lanes lane : ℕ) → (from : Lists) → (packets : ℕ) → List Event → List Reply → (to : Lists) → Type 0
WalksByLists size parts lanes lane from packets script replies to = Walk IsLater (SaysByLists size parts) lanes lane from packets script replies to

-- the readers have seen all turns of these journals, in order
pub record AreTurns (opened : ClusterOpening) (parts : Parts) (journals : Journals) (lists : Lists) : Type 0 where
  pub own : (owner : ℕ) → owner < owners_in opened.size → IsJournalOf opened.size owner opened.flows (journal_of journals owner)
  pub tables : (node owner : ℕ) → node < opened.size.nodes → owner < owners_in opened.size → (turns : ℕ)
      → shard_state_of (with_list (parts.tables node owner) (take turns (lists.tables node owner))) ≡ shard_after opened.size owner opened.flows (take turns (journal_of journals owner))
  pub fibs : (node owner : ℕ) → node < opened.size.nodes → owner < owners_in opened.size
      → lists.fibs node owner ≡ messages_after opened.size node owner opened.flows [] (journal_of journals owner)
  pub unturned : (node owner : ℕ) → node < opened.size.nodes → owner < owners_in opened.size → state_of (parts.fibs node owner) ≡ fib_after opened.size node owner opened.flows []
  pub tables_many : (node owner : ℕ) → length (lists.tables node owner) ≡ all_seen opened journals Table node owner
  pub fibs_many : (node owner : ℕ) → length (lists.fibs node owner) ≡ all_seen opened journals Fib node owner

-- how many turns the readers have seen
abbrev pub stood_at : Lists → Stood
stood_at lists Table node owner = length (lists.tables node owner)
stood_at lists Fib node owner = length (lists.fibs node owner)
