-- A replay: events are handled one after the other.
use Rattle.std.specs.Prelude.{ℕ, List, [], ◌∷◌, length, replicate}
use Rattle.packet_reader.specs.declared.event.Event.{Event}
use Rattle.packet_reader.specs.declared.event.Event.TheVariants.{Set, Del, Packet, Carry, Sync}
use Rattle.group_history.specs.declared.update.Update.TheVariants as update
use Rattle.run_model.specs.declared.reply.Reply.{Reply}
use Rattle.run_model.specs.declared.reply.Reply.TheVariants.{Synced}
use Rattle.run_model.specs.State.{ClusterOpening, ClusterState, Taken, journal_of}
use Rattle.run_model.specs.Updates.{after_update, update_reply}
use Rattle.run_model.specs.Packets.{packet_reply}
use Rattle.run_model.specs.Carrying.{after_carry, after_sync, carry_reply, turns_taken}

-- the reply to an event
unfoldable pub reply_in : ClusterState → Event → Reply
reply_in state (Set flow) = update_reply state.opened state.journals (update.Set flow)
reply_in state (Del key) = update_reply state.opened state.journals (update.Del key)
reply_in state (Packet ingress key) = packet_reply state.opened state.journals state.nodes ingress key
reply_in state (Carry node owner turn part) =
    carry_reply (length (journal_of state.journals owner)) (turns_taken part state.nodes node owner) turn
reply_in state Sync = Synced

-- the cluster after an event
unfoldable pub state_after : ClusterState → Event → ClusterState
state_after state (Set flow) = record state { journals = after_update state.opened state.journals (update.Set flow) }
state_after state (Del key) = record state { journals = after_update state.opened state.journals (update.Del key) }
state_after state (Packet ingress key) = state
state_after state (Carry node owner turn part) = record state { nodes = after_carry state.journals state.nodes node owner turn part }
state_after state Sync = record state { nodes = after_sync state.journals state.nodes }

-- the replies to a script
unfoldable pub replies_from : ClusterState → List Event → List Reply
replies_from state [] = []
replies_from state (event ∷ script) = reply_in state event ∷ replies_from (state_after state event) script

-- a node that has taken no turn
abbrev pub fresh_node : (nodes : ℕ) → Taken
fresh_node nodes = record { tables = replicate nodes 0; fibs = replicate nodes 0 }

-- the cluster of an opening
unfoldable pub fresh : ClusterOpening → ClusterState
fresh opened = record {
  opened = opened;
  journals = replicate opened.size.nodes [];
  nodes = replicate opened.size.nodes (fresh_node opened.size.nodes);
}

-- the replies of a replay of the script
unfoldable pub replayed_with_updates : ClusterOpening → List Event → List Reply
replayed_with_updates opened script = replies_from (fresh opened) script
