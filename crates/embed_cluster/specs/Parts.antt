-- What is known of the cluster's parts: of which shape they are, and that they stay those that they were.
use Rattle.std.specs.Prelude.{◌≡◌, ℕ, ◌<◌, List, length, Some}
use Rattle.std.specs.List.{slice_get}
use Rattle.flow_types.specs.declared.record.Flow.{Flow}
use Rattle.flow_types.specs.Size.{Size}
use Rattle.node_link.specs.Ends.{End}
use Rattle.packet_path.specs.Fibs.{IsFibOf}
use Rattle.partial_fib.specs.Ends.{ReaderState, reader_told}
use Rattle.storm_lane.specs.Readers.{seats_of}
use Rattle.turn_log.specs.Sender.{IsSenderOf}
use Rattle.embed_cluster.specs.declared.lane.Lane.{Lane}
use Rattle.embed_cluster.specs.declared.node.Node.{Node}
use Rattle.embed_cluster.specs.declared.node.Nodes.{Nodes}
use Rattle.embed_cluster.specs.declared.owner.Owner.{Owner}

-- the owner was opened with these flows, and its links are of its shape
pub record Stands (size : Size) (flows : List Flow) (owner : Owner) : Type 0 where
  pub two_nodes : size.nodes ≡ 2
  pub sender : IsSenderOf size 0 flows owner.sender
  pub first : owner.first.size ≡ size
  pub second : owner.second.size ≡ size

-- its links are the same
pub record IsSameOwner (before after : Owner) : Type 0 where
  pub first : after.first.line ≡ before.first.line
  pub second : after.second.line ≡ before.second.line
  pub first_size : after.first.size ≡ before.first.size
  pub second_size : after.second.size ≡ before.second.size

-- what the node has is of this shape
pub record HasShape (size : Size) (node : Node) : Type 0 where
  pub link : node.takes.size ≡ size
  pub table : node.table.shard.shape ≡ size
  pub fib : node.fib.opening.size ≡ size

-- the owner's end is of this node's link
pub record IsLinkedTo (size : Size) (end : End) (node : Node) : Type 0 where
  pub line : end.line ≡ node.takes.line
  pub end_size : end.size ≡ size
  pub shape : HasShape size node

-- it has the same link, table and FIB
pub record IsSameNode (before after : Node) : Type 0 where
  pub line : after.takes.line ≡ before.takes.line
  pub size : after.takes.size ≡ before.takes.size
  pub shard : after.table.shard ≡ before.table.shard
  pub book : after.fib.book ≡ before.fib.book
  pub opening : after.fib.opening ≡ before.fib.opening

abbrev pub HaveShape : Size → Nodes → Type 0
HaveShape size nodes = HasShape size nodes.first × HasShape size nodes.second

abbrev pub AreSameNodes : (before after : Nodes) → Type 0
AreSameNodes before after = IsSameNode before.first after.first × IsSameNode before.second after.second

-- the lane has readers of each node's table and FIB of the owner, and its packets enter at a node
pub record CanAnswer (size : Size) (lane : Lane) : Type 0 where
  pub sized : (seats_of lane.readers).size ≡ size
  pub of_owner : (seats_of lane.readers).owner ≡ 0
  pub whole : length (seats_of lane.readers).shards ≡ size.nodes
  pub enters : lane.ingress < size.nodes

-- they are readers of the same tables and FIBs
pub record AreSameReaders (before after : Lane) : Type 0 where
  pub seats : seats_of after.readers ≡ seats_of before.readers
  pub ingress : after.ingress ≡ before.ingress

-- they read this node's table and FIB
pub record ReadsAt (number : ℕ) (lane : Lane) (node : Node) : Type 0 where
  pub table : slice_get (seats_of lane.readers).shards number ≡ Some node.table.shard
  pub fib : slice_get (seats_of lane.readers).books number ≡ Some node.fib.book

abbrev pub ReadBoth : Lane → Nodes → Type 0
ReadBoth lane nodes = ReadsAt 0 lane nodes.first × ReadsAt 1 lane nodes.second

-- a node of this number before the owner's first turn, and a reader of its FIB
pub record IsFresh (size : Size) (number : ℕ) (node : Node) (reader : ReaderState) : Type 0 where
  pub shape : HasShape size node
  pub of_owner : node.table.shard.owner ≡ 0
  pub fib : IsFibOf size 0 number node.fib.opening
  pub told : reader ≡ reader_told node.fib

-- such a node, with the owner's end of its link and a reader of its FIB for each lane
pub record IsOpened (size : Size) (number : ℕ) (opened : Node × End × ReaderState × ReaderState) : Type 0 where
  pub link : IsLinkedTo size opened.1 opened.0
  pub first : IsFresh size number opened.0 opened.2
  pub second : IsFresh size number opened.0 opened.3
