-- A cluster whose nodes are all told a turn of an owner.
use Rattle.std.specs.Prelude.{ℕ, List, map, max, slice_index}
use Rattle.delta_codec.specs.declared.message.TableMessage.{TableMessage}
use Rattle.packet_reader.specs.declared.event.Part.{Part}
use Rattle.packet_reader.specs.declared.event.Part.TheVariants.{Fib, Table}
use Rattle.delta_codec.specs.Messages.{IsTableMessageOf, TableMessageFits}
use Rattle.run_model.specs.Carrying.{with_taken}
use Rattle.run_model.specs.State.{ClusterState, Taken, journal_of}
use Rattle.cluster_replay.specs.Cluster.{RunState, with_nodes}

-- the message of an owner's turn for the nodes' tables
pub record IsTurnsTableMessage (cluster : ClusterState) (owner turn : ℕ) (message : TableMessage) : Type 0 where
  pub fits : TableMessageFits cluster.opened.size message
  pub of_turn : IsTableMessageOf cluster.opened.size owner cluster.opened.flows (journal_of cluster.journals owner) turn message

-- the turns that a part of a node has taken, owner by owner
abbrev pub counts : Part → Taken → List ℕ
counts Table taken = taken.tables
counts Fib taken = taken.fibs

-- what a node has taken, once this part of it has this turn of an owner: no fewer turns than before
abbrev pub with_turn : Part → (owner turn : ℕ) → Taken → Taken
with_turn part owner turn taken = with_taken part taken owner (max (slice_index (counts part taken) owner) turn)

-- the run, once this part of each node has this turn of an owner
abbrev pub with_turns : Part → (owner turn : ℕ) → RunState → RunState
with_turns part owner turn run = with_nodes run (map (with_turn part owner turn) run.cluster.nodes)
