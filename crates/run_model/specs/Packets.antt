-- What becomes of a packet.
use Rattle.std.specs.Prelude.{ℕ, List, take, Option, Some, None}
use Rattle.flow_types.specs.declared.key.FlowKey.{FlowKey}
use Rattle.flow_types.specs.declared.record.Record.{Record}
use Rattle.flow_types.specs.Map.{flow_at}
use Rattle.group_history.specs.declared.change.Change.{Change}
use Rattle.group_history.specs.Journal.{change_count}
use Rattle.packet_reader.specs.declared.event.Part.{Part}
use Rattle.packet_reader.specs.declared.event.Part.TheVariants.{Table, Fib}
use Rattle.group_history.specs.History.{map_now}
use Rattle.group_history.specs.Routes.{handled_record}
use Rattle.delta_codec.specs.Routed.{routed}
use Rattle.run_model.specs.declared.reply.Reply.{Reply}
use Rattle.run_model.specs.declared.reply.Reply.TheVariants.{Found, Unknown, Nowhere}
use Rattle.run_model.specs.Carrying.{turns_taken}
use Rattle.run_model.specs.State.{Journals, ClusterOpening, Taken, home_of_key, journal_of, owner_of_group}

-- the record that a node has of the key, after these changes
unfoldable pub fib_record_after : ClusterOpening → List Change → (node : ℕ) → FlowKey → Option Record
fib_record_after opened changes node key = handled_record node (flow_at key (map_now opened.size opened.flows changes (home_of_key opened key)))

-- the first changes of the key's owner
abbrev pub first_changes : ClusterOpening → Journals → FlowKey → (turns : ℕ) → List Change
first_changes opened journals key turns = take turns (journal_of journals (owner_of_group opened (home_of_key opened key)))

-- the version of the key's group after these changes
abbrev pub version_after : ClusterOpening → List Change → FlowKey → ℕ
version_after opened changes key = change_count (home_of_key opened key) changes

abbrev pub answer_of : (node seen fib : ℕ) → Option Record → Reply
answer_of node seen fib (Some info) = Found node seen fib info
answer_of node seen fib None = Unknown node seen fib

-- the reply to a packet, where its ingress has these changes and the node that it is sent to has those
abbrev pub reply_sent : ClusterOpening → (there : List Change) → (here : ℕ → List Change) → FlowKey → Option ℕ → Reply
reply_sent opened there here key None = Nowhere (version_after opened there key)
reply_sent opened there here key (Some node) =
    answer_of node (version_after opened there key) (version_after opened (here node) key) (fib_record_after opened (here node) node key)

-- how many turns of an owner the part of a node has, or has been seen to have
abbrev pub Stood : Type 0
Stood = (part : Part) (node owner : ℕ) → ℕ

-- the reply to a packet by these numbers of turns: the ingress's table sends it by the first turns of its key's owner, as many as stand
-- there, and the node's FIB answers by as many as stand in it
abbrev pub reply_by_turns : ClusterOpening → Journals → Stood → (ingress : ℕ) → FlowKey → Reply
reply_by_turns opened journals stood ingress key =
    let owner = owner_of_group opened (home_of_key opened key) in
    let there = first_changes opened journals key (stood Table ingress owner) in
    reply_sent opened there (λ (node : ℕ). first_changes opened journals key (stood Fib node owner)) key
    (routed opened.size opened.flows there (version_after opened there key) key)

-- the reply to a packet in a replay, by the turns that tables and FIBs have taken
unfoldable pub packet_reply : ClusterOpening → Journals → List Taken → (ingress : ℕ) → FlowKey → Reply
packet_reply opened journals nodes ingress key = reply_by_turns opened journals (λ (part : Part) (node owner : ℕ). turns_taken part nodes node owner) ingress key
