-- What holds of every replay.
use Rattle.std.specs.Prelude.{◌≡◌, ◌≢◌, ℕ, ◌+◌, ◌<◌, ◌≤◌, ◌%◌, List, [], ◌∷◌, ◌++◌, length, replicate, All, Some, None}
use Rattle.flow_types.specs.declared.key.FlowKey.{FlowKey}
use Rattle.flow_types.specs.Map.{AreDistinct, HaveKeyValues}
use Rattle.flow_types.specs.Size.{IsShape}
use Rattle.group_search.specs.Build.{past_limit}
use Rattle.group_search.specs.Records.{AreHandled}
use Rattle.flow_types.specs.Key.{IsKeyValue}
use Rattle.packet_reader.specs.Form.{HasKeyValue, IsInRange, IsRowOf}
use Rattle.group_history.specs.declared.update.Update.{Update}
use Rattle.group_history.specs.Acceptance.{change_of}
use Rattle.packet_reader.specs.declared.event.Event.{Event}
use Rattle.packet_reader.specs.declared.event.Event.TheVariants.{Carry}
use Rattle.packet_reader.specs.declared.event.Part.{Part}
use Rattle.packet_reader.specs.declared.mode.Mode.TheVariants.{Replay}
use Rattle.run_model.specs.Allowed.{Allowed, Moment}
use Rattle.run_model.specs.Carrying.{turns_taken}
use Rattle.run_model.specs.Lanes.{NeverFalls}
use Rattle.run_model.specs.Packets.{Stood, reply_by_turns}
use Rattle.run_model.specs.Paths.{IsPathByRecord, Stands}
use Rattle.run_model.specs.Replaying.{fresh, replayed_with_updates, reply_in, state_after}
use Rattle.run_model.specs.Sound.{AreSoundJournals}
use Rattle.run_model.specs.State.{Journals, ClusterOpening, ClusterState, Taken, journal_of}
use Rattle.run_model.specs.Told.{EachPacket, GoesByRecord, TellsAtOneVersion}
use Rattle.run_model.specs.Updates.{after_update, update_owner, update_reply, verdict}
use Rattle.run_model.specs.declared.reply.Reply.{Reply}
use Rattle.run_model.specs.declared.reply.Reply.TheVariants.{Accepted, Applied, EarlyHave, Refused, RepeatHave, Unsent}

-- a cluster can be opened so: it has a shape, its flows are a map from keys in range to its nodes, and no block is past a limit
pub record CanBeOpened (opened : ClusterOpening) : Type 0 where
  pub shape : IsShape opened.size.nodes opened.size.blocks
  pub distinct : AreDistinct opened.flows
  pub handled : AreHandled opened.size.nodes opened.flows
  pub values : HaveKeyValues opened.flows
  pub within : past_limit opened.size opened.flows ≡ None

-- the nodes that the event names are there, and its key is in range
pub record IsRow (opened : ClusterOpening) (event : Event) : Type 0 where
  pub in_range : IsInRange opened.size event
  pub value : HasKeyValue event

-- each event has the form of a row of a replay
abbrev pub AreFormed : ClusterOpening → List Event → Type 0
AreFormed opened script = All (IsRowOf Replay opened.size) script

-- the replies of a replay are allowed, in a run with one lane or with any other number
abbrev pub ReplaysAreAllowed : Type 0
ReplaysAreAllowed = (opened : ClusterOpening) (script : List Event) (lanes : ℕ) → CanBeOpened opened → AreFormed opened script
    → Allowed opened lanes script (replayed_with_updates opened script)

-- at whatever version between the two ends of its phase a packet is answered, its reply is a path, and goes by the canonical record
abbrev pub EachVersionIsAPath : Type 0
EachVersionIsAPath = (opened : ClusterOpening) (lanes : ℕ) (ends : Journals) (m : Moment) (stood : (lane : ℕ) → Stood) (ingress : ℕ) (key : FlowKey)
    → IsShape opened.size.nodes opened.size.blocks → AreSoundJournals opened ends → Stands opened ends m stood → ingress < opened.size.nodes → IsKeyValue key
    → IsPathByRecord opened lanes m ends ingress key (reply_by_turns opened ends (stood (m.packets % lanes)) ingress key)

-- the cluster after these events
unfoldable pub state_after_all : ClusterState → List Event → ClusterState
state_after_all state [] = state
state_after_all state (event ∷ script) = state_after_all (state_after state event) script

-- what each part of each node has taken of an owner's turns is a prefix of them
abbrev pub TakesPrefixes : ClusterState → Type 0
TakesPrefixes state = (part : Part) (node owner : ℕ) → turns_taken part state.nodes node owner ≤ length (journal_of state.journals owner)

-- so it is after all events, in whatever order and however often messages are carried
abbrev pub NodesTakePrefixes : Type 0
NodesTakePrefixes = (opened : ClusterOpening) (script : List Event) → TakesPrefixes (state_after_all (fresh opened) script)

-- ---- one turn after the other

-- the message was the next of the owner's turns for this part of the node, which has then taken it, and nothing else was taken
pub record TookNextTurn (sent : ℕ) (before after : List Taken) (node owner turn : ℕ) (part : Part) : Type 0 where
  pub was_sent : turn ≤ sent
  pub next : turn ≡ turns_taken part before node owner + 1
  pub taken : turns_taken part after node owner ≡ turn
  pub other_parts : (other : Part) (at whose : ℕ) → other ≢ part → turns_taken other after at whose ≡ turns_taken other before at whose
  pub other_nodes : (at whose : ℕ) → at ≢ node → turns_taken part after at whose ≡ turns_taken part before at whose
  pub other_owners : (at whose : ℕ) → whose ≢ owner → turns_taken part after at whose ≡ turns_taken part before at whose

-- the message was sent and isn't taken; the part has this many of the owner's turns
pub record TookNothing (sent : ℕ) (before after : List Taken) (node owner turn : ℕ) (part : Part) (have : ℕ) : Type 0 where
  pub was_sent : turn ≤ sent
  pub have_is : have ≡ turns_taken part before node owner
  pub same : after ≡ before

-- what a message was that is answered so, and what nodes have taken after it, where the owner has sent this many turns: a turn
-- that the part has already is a repeat, and one behind a gap is early
abbrev pub CarryCameTo : (sent : ℕ) (before after : List Taken) (node owner turn : ℕ) → Part → Reply → Type 0
CarryCameTo sent before after node owner turn part Applied = TookNextTurn sent before after node owner turn part
CarryCameTo sent before after node owner turn part (RepeatHave have) = (turn ≤ have) × TookNothing sent before after node owner turn part have
CarryCameTo sent before after node owner turn part (EarlyHave have) = (have + 1 < turn) × TookNothing sent before after node owner turn part have
CarryCameTo sent before after node owner turn part Unsent = (sent < turn) × (after ≡ before)
CarryCameTo sent before after node owner turn part _ = ⊥

-- after whatever events, a message is taken only where it is the next turn
abbrev pub CarriesTakeTheNextTurn : Type 0
CarriesTakeTheNextTurn = (opened : ClusterOpening) (script : List Event) (node owner turn : ℕ) (part : Part) → node < opened.size.nodes → owner < opened.size.nodes
    → let state = state_after_all (fresh opened) script in
    let carry = Carry node owner turn part in
    CarryCameTo (length (journal_of state.journals owner)) state.nodes (state_after state carry).nodes node owner turn part (reply_in state carry)

-- the update has the next turn of its key's owner, whose last change is the update's, and no other owner has accepted anything
pub record TookTurn (opened : ClusterOpening) (before after : Journals) (update : Update) (owner turn : ℕ) : Type 0 where
  pub owner_is : owner ≡ update_owner opened update
  pub next : turn ≡ length (journal_of before owner) + 1
  pub last : journal_of after owner ≡ journal_of before owner ++ change_of opened.size opened.flows update ∷ []
  pub others : (other : ℕ) → other ≢ owner → journal_of after other ≡ journal_of before other

-- what an update that is answered so did to the journals
abbrev pub UpdateCameTo : ClusterOpening → (before after : Journals) → Update → Reply → Type 0
UpdateCameTo opened before after update (Accepted owner turn) = (verdict opened before update ≡ None) × TookTurn opened before after update owner turn
UpdateCameTo opened before after update (Refused why) = (verdict opened before update ≡ Some why) × (after ≡ before)
UpdateCameTo opened before after update _ = ⊥

-- after whatever events, an update that is accepted has its owner's next turn, and one that is refused changes nothing
abbrev pub UpdatesTakeTheNextTurn : Type 0
UpdatesTakeTheNextTurn = (opened : ClusterOpening) (script : List Event) (update : Update) → 0 < opened.size.nodes
    → let journals = (state_after_all (fresh opened) script).journals in
    UpdateCameTo opened journals (after_update opened journals update) update (update_reply opened journals update)

-- ---- what the replies to packets tell

-- no owner has accepted anything
abbrev pub no_journals : ClusterOpening → Journals
no_journals opened = replicate opened.size.nodes []

-- whatever replies are allowed: where ingress and node stand at one version of the key's group, a known flow is found at its
-- handler, and unknown is answered exactly of keys that the group doesn't have
abbrev pub OneVersionTells : Type 0
OneVersionTells = (opened : ClusterOpening) (lanes : ℕ) (script : List Event) (replies : List Reply) → Allowed opened lanes script replies
    → EachPacket opened (TellsAtOneVersion opened) (no_journals opened) script replies

-- whatever replies are allowed, no lane goes back: versions never fall for one lane, node and group
abbrev pub NoLaneGoesBack : Type 0
NoLaneGoesBack = (opened : ClusterOpening) (lanes : ℕ) (script : List Event) (replies : List Reply) → Allowed opened lanes script replies
    → NeverFalls opened lanes 0 script replies

-- in a replay each packet goes where the canonical record of its key's group sends it
abbrev pub ReplaysGoByRecords : Type 0
ReplaysGoByRecords = (opened : ClusterOpening) (script : List Event)
    → EachPacket opened (GoesByRecord opened) (no_journals opened) script (replayed_with_updates opened script)
