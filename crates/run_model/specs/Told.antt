-- What the replies to packets tell of the maps of their keys' groups.
use Rattle.std.specs.Prelude.{◌≡◌, ℕ, ◌≤◌, List, [], ◌∷◌, Option, Some, None}
use Rattle.flow_types.specs.declared.key.FlowKey.{FlowKey}
use Rattle.flow_types.specs.declared.record.Flow.{Flow}
use Rattle.flow_types.specs.declared.record.Record.{Record}
use Rattle.flow_types.specs.Map.{Knows}
use Rattle.group_history.specs.Journal.{change_count}
use Rattle.delta_codec.specs.Routed.{routed}
use Rattle.packet_reader.specs.declared.event.Event.{Event}
use Rattle.packet_reader.specs.declared.event.Event.TheVariants.{Set, Del, Packet, Carry, Sync}
use Rattle.group_history.specs.declared.update.Update.TheVariants as update
use Rattle.run_model.specs.declared.reply.Reply.{Reply}
use Rattle.run_model.specs.declared.reply.Reply.TheVariants.{Found, Unknown, Nowhere}
use Rattle.run_model.specs.State.{Journals, ClusterOpening, home_of_key}
use Rattle.run_model.specs.Updates.{after_update}
use Rattle.run_model.specs.Allowed.{IsAtVersion, changes_of_key, phase_end}

-- each packet's key and reply have this, where the owners have accepted so much by the end of the packet's phase
abbrev pub EachPacket : ClusterOpening → (Journals → FlowKey → Reply → Type 0) → Journals → List Event → List Reply → Type 0
EachPacket opened Has journals [] [] = Unit {0}
EachPacket opened Has journals (Set flow ∷ script) (reply ∷ replies) = EachPacket opened Has (after_update opened journals (update.Set flow)) script replies
EachPacket opened Has journals (Del key ∷ script) (reply ∷ replies) = EachPacket opened Has (after_update opened journals (update.Del key)) script replies
EachPacket opened Has journals (Packet ingress key ∷ script) (reply ∷ replies) =
    Has (phase_end opened journals script) key reply × EachPacket opened Has journals script replies
EachPacket opened Has journals (Carry node owner turn part ∷ script) (reply ∷ replies) = EachPacket opened Has journals script replies
EachPacket opened Has journals (Sync ∷ script) (reply ∷ replies) = EachPacket opened Has journals script replies
EachPacket opened Has journals _ _ = ⊥

-- ---- at one version

-- all that answer for the packet stand at this version of its key's group
abbrev pub IsBy : (version : ℕ) → Reply → Type 0
IsBy version (Found node seen fib info) = (seen ≡ version) × (fib ≡ version)
IsBy version (Unknown node seen fib) = (seen ≡ version) × (fib ≡ version)
IsBy version (Nowhere seen) = seen ≡ version
IsBy version _ = ⊥

-- the packet's flow is found at its handler and with its record where the map knows it, and is unknown where it doesn't
abbrev pub TellsOf : List Flow → FlowKey → Reply → Type 0
TellsOf flows key (Found node seen fib info) = Knows flows key node info
TellsOf flows key (Unknown node seen fib) = (at : ℕ) (info : Record) → ¬ Knows flows key at info
TellsOf flows key (Nowhere seen) = (at : ℕ) (info : Record) → ¬ Knows flows key at info
TellsOf flows key _ = ⊥

-- where all that answer stand at one version, the reply tells of the group's map at this version
abbrev pub TellsAtOneVersion : ClusterOpening → Journals → FlowKey → Reply → Type 0
TellsAtOneVersion opened journals key reply =
    (version : ℕ) (flows : List Flow) → IsBy version reply → IsAtVersion opened (changes_of_key opened journals key) key version flows → TellsOf flows key reply

-- ---- by the canonical record

-- the key's group has had this version, and the key is routed so at it
pub record IsRouted (opened : ClusterOpening) (journals : Journals) (key : FlowKey) (version : ℕ) (to : Option ℕ) : Type 0 where
  pub had : version ≤ change_count (home_of_key opened key) (changes_of_key opened journals key)
  pub sends : routed opened.size opened.flows (changes_of_key opened journals key) version key ≡ to

-- the packet goes where the canonical record sends it at the version that its ingress has seen, whether or not its flow is known
abbrev pub GoesByRecord : ClusterOpening → Journals → FlowKey → Reply → Type 0
GoesByRecord opened journals key (Found node seen fib info) = IsRouted opened journals key seen (Some node)
GoesByRecord opened journals key (Unknown node seen fib) = IsRouted opened journals key seen (Some node)
GoesByRecord opened journals key (Nowhere seen) = IsRouted opened journals key seen None
GoesByRecord opened journals key _ = ⊥
