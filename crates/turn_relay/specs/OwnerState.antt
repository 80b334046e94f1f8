-- What a contract sees of an owner in a storm.
use Rattle.std.specs.Prelude.{◌≡◌, ℕ, ◌≤◌, Bool, List, length}
use Rattle.flow_types.specs.declared.record.Flow.{Flow}
use Rattle.flow_types.specs.Size.{Size}
use Rattle.group_history.specs.declared.change.Change.{Change}
use Rattle.turn_log.specs.Sender.{IsSenderOf, SenderState, changes_in}
use Rattle.node_link.specs.Ends.{End}
use Rattle.run_model.specs.declared.reply.Reply.{Reply}
use Rattle.turn_relay.specs.Each.{Each, Every}
use Rattle.turn_relay.specs.Sent.{AreAllSent}

-- its sender, its end of a link to each node from 0 on, its replies of a phase, and whether memory was wanting in it
pub record OwnerState : Type 0 where
  pub size : Size
  pub number : ℕ
  pub sender : SenderState
  pub ends : List End
  pub replies : List Reply
  pub failed : Bool

-- the sender is of this shape and number, and so are the ends, of which there are no more than nodes
pub record IsOwner (size : Size) (number : ℕ) (sender : SenderState) (ends : List End) : Type 0 where
  pub sized : sender.rib.size ≡ size
  pub numbered : sender.rib.number ≡ number
  pub few : length ends ≤ size.nodes
  pub ends_sized : Every (λ (end : End). end.size ≡ size) ends

-- what the owner has accepted
abbrev pub journal_in : OwnerState → List Change
journal_in owner = changes_in owner.sender

-- it was opened with these flows
abbrev pub Stands : List Flow → OwnerState → Type 0
Stands flows owner = IsSenderOf owner.size owner.number flows owner.sender

-- what was sent to each node to which it has a link is all turns of the owner
abbrev pub HasSentAll : List Flow → OwnerState → Type 0
HasSentAll flows owner = AreAllSent owner.size owner.number flows (journal_in owner) owner.ends

-- it has a link to each node
abbrev pub HasLinks : OwnerState → Type 0
HasLinks owner = length owner.ends ≡ owner.size.nodes

-- an end of the same link
abbrev pub IsSameLink : End → End → Type 0
IsSameLink before after = (after.line ≡ before.line) × (after.size ≡ before.size)

-- the same owner with the same links
pub record IsSameOwner (before after : OwnerState) : Type 0 where
  pub size : after.size ≡ before.size
  pub number : after.number ≡ before.number
  pub links : Each IsSameLink before.ends after.ends
