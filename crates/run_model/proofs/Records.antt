-- In a replay each packet goes where the canonical record of its key's group sends it.
use Rattle.std.proofs.Common.{◌≡◌, ◌∙◌, ℕ, List, [], ◌∷◌, Option, Some, None, refl}
use mathlib.Core.List.{IsPrefix}
use Rattle.flow_types.proofs.Prefixes.{prefix_self}
use Rattle.flow_types.specs.declared.key.FlowKey.{FlowKey}
use Rattle.flow_types.specs.declared.record.Record.{Record}
use Rattle.group_history.specs.declared.change.Change.{Change}
use Rattle.packet_reader.specs.declared.event.Event.{Event}
use Rattle.packet_reader.specs.declared.event.Event.TheVariants.{Set, Del, Packet, Carry, Sync}
use Rattle.packet_reader.specs.declared.event.Part.TheVariants.{Table, Fib}
use Rattle.run_model.specs.Allowed.{changes_of_key, phase_end}
use Rattle.run_model.specs.Laws.{ReplaysGoByRecords}
use Rattle.run_model.specs.Carrying.{turns_taken}
use Rattle.run_model.specs.Packets.{Stood, answer_of, first_changes, packet_reply, fib_record_after, reply_by_turns, reply_sent, version_after}
use Rattle.run_model.specs.Replaying.{fresh, replayed_with_updates, replies_from, reply_in, state_after}
use Rattle.run_model.specs.State.{Journals, ClusterOpening, ClusterState, Taken, home_of_key, journal_of, owner_of_group}
use Rattle.run_model.specs.Told.{EachPacket, GoesByRecord, IsRouted}
use Rattle.run_model.proofs.Accepting.{phase-grows}
use Rattle.run_model.proofs.Cuts.{count-grows}
use Rattle.run_model.proofs.Firsts.{first-grows, routed-first}
use Rattle.run_model.proofs.Parts.{sent_after}

module _ (opened : ClusterOpening) (journals end : Journals) (key : FlowKey) (turns : ℕ) (here : ℕ → List Change)
    (grows : IsPrefix (journal_of journals (owner_of_group opened (home_of_key opened key))) (journal_of end (owner_of_group opened (home_of_key opened key)))) where
  abbrev there : List Change
  there = first_changes opened journals key turns

  routes : (to : Option ℕ) → sent_after opened there key ≡ to → IsRouted opened end key (version_after opened there key) to
  routes to is = record {
    had = count-grows (home_of_key opened key) there (changes_of_key opened end key) (first-grows opened (changes_of_key opened journals key) (changes_of_key opened end key) grows key turns);
    sends = routed-first opened (changes_of_key opened journals key) (changes_of_key opened end key) grows key turns ∙ is;
  }

  answered : (node fib : ℕ) (said : Option Record) → sent_after opened there key ≡ Some node
      → GoesByRecord opened end key (answer_of node (version_after opened there key) fib said)
  answered node fib (Some info) is = routes (Some node) is
  answered node fib None is = routes (Some node) is

  pub goes : (to : Option ℕ) → sent_after opened there key ≡ to → GoesByRecord opened end key (reply_sent opened there here key to)
  goes (Some node) is = answered node (version_after opened (here node) key) (fib_record_after opened (here node) node key) is
  goes None is = routes None is

-- whatever turns tables and FIBs have
pub goes-by-record : (opened : ClusterOpening) (journals : Journals) (stood : Stood) (ingress : ℕ) (key : FlowKey)
    → GoesByRecord opened journals key (reply_by_turns opened journals stood ingress key)
goes-by-record opened journals stood ingress key =
    let owner = owner_of_group opened (home_of_key opened key) in
    goes opened journals journals key (stood Table ingress owner) (λ (node : ℕ). first_changes opened journals key (stood Fib node owner)) (prefix_self (journal_of journals owner))
    (sent_after opened (first_changes opened journals key (stood Table ingress owner)) key) refl

packet-goes : (opened : ClusterOpening) (journals end : Journals) (nodes : List Taken) (ingress : ℕ) (key : FlowKey)
    → IsPrefix (journal_of journals (owner_of_group opened (home_of_key opened key))) (journal_of end (owner_of_group opened (home_of_key opened key)))
    → GoesByRecord opened end key (packet_reply opened journals nodes ingress key)
unfolding packet_reply
packet-goes opened journals end nodes ingress key grows =
    let owner = owner_of_group opened (home_of_key opened key) in
    goes opened journals end key (turns_taken Table nodes ingress owner) (λ (node : ℕ). first_changes opened journals key (turns_taken Fib nodes node owner)) grows
    (sent_after opened (first_changes opened journals key (turns_taken Table nodes ingress owner)) key) refl

all-go : (script : List Event) (state : ClusterState) → EachPacket state.opened (GoesByRecord state.opened) state.journals script (replies_from state script)
unfolding replies_from reply_in state_after
all-go [] state = tt
all-go (Set flow ∷ script) state = all-go script (state_after state (Set flow))
all-go (Del key ∷ script) state = all-go script (state_after state (Del key))
all-go (Packet ingress key ∷ script) state =
    (packet-goes state.opened state.journals (phase_end state.opened state.journals script) state.nodes ingress key (phase-grows state.opened script state.journals _), all-go script state)
all-go (Carry node owner turn part ∷ script) state = all-go script (state_after state (Carry node owner turn part))
all-go (Sync ∷ script) state = all-go script (state_after state Sync)

pub replays_go_by_records : ReplaysGoByRecords
unfolding replayed_with_updates fresh
replays_go_by_records opened script = all-go script (fresh opened)
