-- What a contract sees of a cluster in a run.
use Rattle.std.specs.Prelude.{ℕ, ◌%◌, List, [], slice_index, slice_index_or}
use Rattle.flow_types.specs.declared.key.FlowKey.{FlowKey}
use Rattle.flow_types.specs.declared.record.Flow.{Flow}
use Rattle.flow_types.specs.Size.{Size}
use Rattle.group_search.specs.Home.{Home, home}
use Rattle.group_history.specs.declared.change.Change.{Change}

-- the opening of a cluster: its size, and its flows
pub record ClusterOpening : Type 0 where
  pub size : Size
  pub flows : List Flow

-- each owner's accepted changes, by the owner's number
abbrev pub Journals : Type 0
Journals = List (List Change)

-- how many of each owner's turns a node has taken: those of its table, and those of its FIB
pub record Taken : Type 0 where
  pub tables : List ℕ
  pub fibs : List ℕ

-- a cluster: its opening, what its owners have accepted, and what each node has taken of it
pub record ClusterState : Type 0 where
  pub opened : ClusterOpening
  pub journals : Journals
  pub nodes : List Taken

-- the group where a key belongs
abbrev pub home_of_key : ClusterOpening → FlowKey → Home
home_of_key opened key = home opened.size.blocks opened.flows key

-- the node that owns a group
abbrev pub owner_of_group : ClusterOpening → Home → ℕ
owner_of_group opened at = at.block % opened.size.nodes

-- what an owner has accepted
abbrev pub journal_of : Journals → (owner : ℕ) → List Change
journal_of journals owner = slice_index_or journals owner []

abbrev pub nothing_taken : Taken
nothing_taken = record { tables = []; fibs = [] }

abbrev pub taken_by : List Taken → (node : ℕ) → Taken
taken_by nodes node = slice_index_or nodes node nothing_taken

-- the turns of an owner that a node's table has taken, and those that its FIB has taken
abbrev pub table_turns : List Taken → (node owner : ℕ) → ℕ
table_turns nodes node owner = slice_index (taken_by nodes node).tables owner

abbrev pub fib_turns : List Taken → (node owner : ℕ) → ℕ
fib_turns nodes node owner = slice_index (taken_by nodes node).fibs owner
