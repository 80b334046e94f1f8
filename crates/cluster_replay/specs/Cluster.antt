-- What stands in a cluster's owners and nodes, and what a contract sees of them.
use Rattle.std.specs.Prelude.{◌≡◌, ℕ, ◌<◌, ◌≤◌, Bool, List, [], length, map, take, slice_index_or, All, Option, Some, None, Result, Ok, Err, IfSome, slice_set}
use Rattle.flow_types.specs.declared.record.Flow.{Flow}
use Rattle.flow_types.specs.Size.{IsShape, Size, owners_in}
use Rattle.group_search.specs.Records.{AreHandled}
use Rattle.group_history.specs.declared.change.Change.{Change}
use Rattle.group_history.specs.declared.refused.UpdateRefused.{UpdateRefused}
use Rattle.group_history.specs.declared.refused.UpdateRefused.TheVariants.{OutOfMemory}
use Rattle.partial_fib.specs.Fib.{FibState, fib_after, with_turn}
use Rattle.partial_fib.specs.Store.{FibStore, state_of}
use Rattle.delta_codec.specs.declared.message.FibMessage.{FibMessage}
use Rattle.delta_codec.specs.declared.message.TableMessage.{TableMessage}
use Rattle.packet_reader.specs.declared.event.Part.{Part}
use Rattle.run_model.specs.Carrying.{carry_reply, turns_taken}
use Rattle.run_model.specs.State.{ClusterState, Journals, Taken, fib_turns, journal_of, table_turns, taken_by}
use Rattle.run_model.specs.declared.reply.Reply.{Reply}
use Rattle.run_model.specs.declared.reply.Reply.TheVariants.{Accepted, Applied, Refused}
use Rattle.turn_log.specs.Sender.{IsSenderOf, SenderState, changes_in}
use Rattle.replica_shard.specs.Shard.{ShardState, shard_after, with_content}
use Rattle.replica_shard.specs.Store.{ShardStore, shard_state_of}
use Rattle.cluster_open.specs.Opened.{by_number}
use Rattle.cluster_open.specs.declared.node.NodeParts.{NodeParts}

-- what a node says: its table and its FIB of each owner that has a block
pub record NodeState : Type 0 where
  pub shards : List ShardState
  pub fibs : List FibState

-- what a contract sees of a node's fields
pub record NodeStore : Type 0 where
  pub shards : List ShardStore
  pub fibs : List FibStore

-- a node of these parts
abbrev pub node_of_parts : NodeParts → NodeStore
node_of_parts parts = record { shards = parts.tables.items; fibs = parts.fibs.items }

abbrev pub node_state_of : NodeStore → NodeState
node_state_of node = record { shards = map shard_state_of node.shards; fibs = map state_of node.fibs }

-- what a contract sees of a cluster: how far the run has come, and whether memory was wanting
pub record RunState : Type 0 where
  pub cluster : ClusterState
  pub lacks_memory : Bool

abbrev pub no_size : Size
no_size = record { nodes = 0; blocks = 0 }

abbrev pub no_sender : SenderState
no_sender = record { rib = record { size = no_size; number = 0; parts = []; journal = record { changes = []; spare = 0 } }; octets = []; sent = [] }

abbrev pub no_shard : ShardState
no_shard = record { size = no_size; owner = 0; choices = λ block. []; records = λ at. None; versions = λ at. 0; taken = 0 }

abbrev pub no_fib : FibState
no_fib = record { size = no_size; node = 0; owner = 0; records = λ key. None; versions = λ at. 0; taken = 0 }

abbrev pub no_node : NodeState
no_node = record { shards = []; fibs = [] }

-- what an owner has accepted: nothing where it has no block
abbrev pub journal_in : List SenderState → (owner : ℕ) → List Change
journal_in owners owner = changes_in (slice_index_or owners owner no_sender)

-- what each owner has accepted
abbrev pub journals_in : Size → List SenderState → Journals
journals_in size owners = by_number size.nodes (journal_in owners)

-- a node's table and its FIB of an owner
abbrev pub shard_in : NodeState → (owner : ℕ) → ShardState
shard_in node owner = slice_index_or node.shards owner no_shard

abbrev pub fib_in : NodeState → (owner : ℕ) → FibState
fib_in node owner = slice_index_or node.fibs owner no_fib

-- how many turns of each owner a node has taken
unfoldable pub taken_in : (nodes : ℕ) → NodeState → Taken
taken_in nodes node = record {
  tables = by_number nodes (λ (owner : ℕ). (shard_in node owner).taken);
  fibs = by_number nodes (λ (owner : ℕ). (fib_in node owner).taken);
}

-- how far the run has come
unfoldable pub cluster_of : Size → List Flow → List SenderState → List NodeState → ClusterState
cluster_of size flows owners nodes = record {
  opened = record { size = size; flows = flows };
  journals = journals_in size owners;
  nodes = map (taken_in size.nodes) nodes;
}

-- ---- what stands

-- a node's table of an owner after the first of these changes, as many as it has taken
pub record IsTableOf (size : Size) (owner : ℕ) (flows : List Flow) (changes : List Change) (shard : ShardState) : Type 0 where
  pub sent : shard.taken ≤ length changes
  pub stands : shard ≡ shard_after size owner flows (take shard.taken changes)

-- a node's FIB of an owner after the first of these changes, as many as it has taken
pub record IsFibOf (size : Size) (node owner : ℕ) (flows : List Flow) (changes : List Change) (fib : FibState) : Type 0 where
  pub sent : fib.taken ≤ length changes
  pub stands : fib ≡ fib_after size node owner flows (take fib.taken changes)

-- the node of this number: a table and a FIB of each owner that has a block
pub record IsNodeOf (size : Size) (flows : List Flow) (journal : ℕ → List Change) (number : ℕ) (node : NodeState) : Type 0 where
  pub one_table_each : length node.shards ≡ owners_in size
  pub one_fib_each : length node.fibs ≡ owners_in size
  pub tables : (owner : ℕ) → owner < owners_in size → IsTableOf size owner flows (journal owner) (shard_in node owner)
  pub fibs : (owner : ℕ) → owner < owners_in size → IsFibOf size number owner flows (journal owner) (fib_in node owner)

-- the change gives its key to one of the nodes, or to none
abbrev pub GoesTo : (nodes : ℕ) → Change → Type 0
GoesTo nodes change = IfSome change.to (λ to. to.0 < nodes)

abbrev pub GoToNodes : (nodes : ℕ) → List Change → Type 0
GoToNodes nodes changes = All (GoesTo nodes) changes

-- a cluster opened with these flows: an owner for each that has a block, and each node
pub record IsCluster (size : Size) (flows : List Flow) (owners : List SenderState) (nodes : List NodeState) : Type 0 where
  pub shape : IsShape size.nodes size.blocks
  pub handled : AreHandled size.nodes flows
  pub one_owner_each : length owners ≡ owners_in size
  pub senders : (owner : ℕ) → owner < owners_in size → IsSenderOf size owner flows (slice_index_or owners owner no_sender)
  pub to_nodes : (owner : ℕ) → owner < owners_in size → GoToNodes size.nodes (journal_in owners owner)
  pub one_node_each : length nodes ≡ size.nodes
  pub each_node : (number : ℕ) → number < size.nodes → IsNodeOf size flows (journal_in owners) number (slice_index_or nodes number no_node)

-- ---- what a run becomes

-- the run with these journals, or with nodes that have taken so much
abbrev pub with_journals : RunState → Journals → RunState
with_journals run journals = record run { cluster = record (run.cluster) { journals = journals } }

abbrev pub with_nodes : RunState → List Taken → RunState
with_nodes run nodes = record run { cluster = record (run.cluster) { nodes = nodes } }

-- nothing is another, but what the nodes have taken
abbrev pub IsSameButForNodes : (before now : ClusterState) → Type 0
IsSameButForNodes before now = now ≡ record before { nodes = now.nodes }

-- what a node has taken that has taken all that was sent
abbrev pub all_sent : Journals → Taken
all_sent journals =
    let all = map (λ changes. length changes) journals in
    record { tables = all; fibs = all }

-- the reply of a node's part that has these turns to the message of a turn
abbrev pub taking_reply : (have turn : ℕ) → Reply
taking_reply have turn = carry_reply turn have turn

-- the node after a message to one of its tables, or to one of its FIBs, by the reply to it
abbrev pub after_table : NodeState → TableMessage → Reply → NodeState
after_table node message Applied = record node { shards = slice_set node.shards message.owner (with_content (shard_in node message.owner) message) }
after_table node message _ = node

abbrev pub after_fib : NodeState → FibMessage → Reply → NodeState
after_fib node message Applied = record node { fibs = slice_set node.fibs message.owner (with_turn (fib_in node message.owner) message) }
after_fib node message _ = node

-- the reply of an owner to an update; `None` at want of memory
abbrev pub told_of : (owner : ℕ) → Result ℕ UpdateRefused → Option Reply
told_of owner (Ok turn) = Some (Accepted owner turn)
told_of owner (Err OutOfMemory) = None
told_of owner (Err refused) = Some (Refused refused)

-- ---- how it is opened

-- each node, before any owner's first turn
abbrev pub AreFreshNodes : Size → List Flow → List NodeStore → Type 0
AreFreshNodes size flows nodes =
    (length nodes ≡ size.nodes)
    × ((number : ℕ) (d : NodeStore) → number < length nodes → IsNodeOf size flows (λ owner. []) number (node_state_of (slice_index_or nodes number d)))

-- ---- sizes

-- there is a node and a journal for each number, and each node has a number of turns for each owner; an owner without a block
-- has accepted nothing, and nobody has taken anything of it; nobody has taken more turns than were accepted
pub record IsSized (run : RunState) : Type 0 where
  pub nodes_many : length run.cluster.nodes ≡ run.cluster.opened.size.nodes
  pub journals_many : length run.cluster.journals ≡ run.cluster.opened.size.nodes
  pub tables_many : (node : ℕ) → node < run.cluster.opened.size.nodes → length (taken_by run.cluster.nodes node).tables ≡ run.cluster.opened.size.nodes
  pub fibs_many : (node : ℕ) → node < run.cluster.opened.size.nodes → length (taken_by run.cluster.nodes node).fibs ≡ run.cluster.opened.size.nodes
  pub none_ahead : (part : Part) (node owner : ℕ) → node < run.cluster.opened.size.nodes → owner < owners_in run.cluster.opened.size → turns_taken part run.cluster.nodes node owner ≤ length (journal_of run.cluster.journals owner)
  pub accepts_nothing : (owner : ℕ) → owners_in run.cluster.opened.size ≤ owner → length (journal_of run.cluster.journals owner) ≡ 0
  pub no_table_turns : (node owner : ℕ) → node < run.cluster.opened.size.nodes → owners_in run.cluster.opened.size ≤ owner → table_turns run.cluster.nodes node owner ≡ 0
  pub no_fib_turns : (node owner : ℕ) → node < run.cluster.opened.size.nodes → owners_in run.cluster.opened.size ≤ owner → fib_turns run.cluster.nodes node owner ≡ 0
