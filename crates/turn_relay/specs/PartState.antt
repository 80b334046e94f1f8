-- What a contract sees of what a node's applier has of one owner.
use Rattle.std.specs.Prelude.{◌≡◌, ℕ, List, [], Option, Some, None}
use Rattle.std.specs.Global.{Global}
use Rattle.crossbeam_queue.specs.SegTies.{SegId}
use Rattle.flow_types.specs.Size.{Size}
use Rattle.delta_codec.specs.declared.message.Message.{Message}
use Rattle.partial_fib.specs.Ends.{WriterState}
use Rattle.node_link.specs.Ends.{End}
use Rattle.packet_path.specs.Seated.{Seated}
use Rattle.turn_relay.specs.declared.state.State.{State}

-- the node's table and FIB of the owner, the end of the link where there is one, and how far its messages got
pub record PartState : Type 0 where
  pub size : Size
  pub owner : ℕ
  pub table : Seated
  pub fib : WriterState
  pub end : Option End
  pub state : State

abbrev pub HasSize : Size → Option End → Type 0
HasSize size None = Unit {0}
HasSize size (Some end) = end.size ≡ size

-- all of it is of one shape and one owner
pub record IsPart (size : Size) (owner : ℕ) (table : Seated) (fib : WriterState) (end : Option End) : Type 0 where
  pub table_sized : table.shard.shape ≡ size
  pub table_owner : table.shard.owner ≡ owner
  pub fib_sized : fib.opening.size ≡ size
  pub fib_owner : fib.opening.owner ≡ owner
  pub end_sized : HasSize size end

-- the link, if there is one
abbrev pub link_of : Option End → Option (SegId Global)
link_of None = None
link_of (Some end) = Some end.line

-- the messages that were taken
abbrev pub taken_by : Option End → List Message
taken_by None = []
taken_by (Some end) = end.messages

-- what a contract sees of an applier: its node, and a part for each owner that has a block
pub record ApplierState : Type 0 where
  pub node : ℕ
  pub parts : List PartState
