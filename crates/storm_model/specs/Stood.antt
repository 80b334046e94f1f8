-- How many turns of each owner a lane's readers have seen, and how packets are answered by these.
use Rattle.std.specs.Prelude.{◌≡◌, ℕ, ◌≤◌, nat_lt, if◌then◌else◌, List, length}
use Rattle.flow_types.specs.declared.key.FlowKey.{FlowKey}
use Rattle.packet_reader.specs.declared.event.Event.{Event}
use Rattle.packet_reader.specs.declared.event.Part.{Part}
use Rattle.run_model.specs.declared.reply.Reply.{Reply}
pub use Rattle.run_model.specs.Packets.{Stood, reply_by_turns}
use Rattle.run_model.specs.State.{Journals, ClusterOpening, journal_of}
use Rattle.storm_model.specs.Walk.{Walk}

-- the lane's readers have seen as many turns, or more
abbrev pub Rises : Stood → Stood → Type 0
Rises before after = (part : Part) (node owner : ℕ) → before part node owner ≤ after part node owner

-- all turns of these journals have been seen, at each node of the cluster
abbrev pub all_seen : ClusterOpening → Journals → Stood
all_seen opened journals part node owner = if nat_lt node opened.size.nodes then length (journal_of journals owner) else 0

abbrev pub SaysByTurns : ClusterOpening → Journals → Stood → (ingress : ℕ) → FlowKey → Reply → Type 0
SaysByTurns opened journals stood ingress key reply = reply ≡ reply_by_turns opened journals stood ingress key

-- the lane's walk by the turns of these journals
abbrev pub WalksByTurns : ClusterOpening → Journals → (lanes lane : ℕ) → (from : Stood) → (packets : ℕ) → List Event → List Reply → (to : Stood) → Type 0
WalksByTurns opened journals lanes lane from packets script replies to = Walk Rises (SaysByTurns opened journals) lanes lane from packets script replies to
