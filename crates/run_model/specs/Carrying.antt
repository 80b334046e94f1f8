-- What becomes of messages: each node takes an owner's turns in order, once.
use Rattle.std.specs.Prelude.{ℕ, ◌+◌, nat_lt, nat_le, if◌then◌else◌, List, length, map, slice_set}
use Rattle.packet_reader.specs.declared.event.Part.{Part}
use Rattle.packet_reader.specs.declared.event.Part.TheVariants.{Table, Fib}
use Rattle.run_model.specs.declared.reply.Reply.{Reply}
use Rattle.run_model.specs.declared.reply.Reply.TheVariants.{Applied, EarlyHave, RepeatHave, Unsent}
use Rattle.run_model.specs.State.{Journals, Taken, fib_turns, journal_of, table_turns, taken_by}

-- the turns of an owner that this part of a node has taken
abbrev pub turns_taken : Part → List Taken → (node owner : ℕ) → ℕ
turns_taken Table nodes node owner = table_turns nodes node owner
turns_taken Fib nodes node owner = fib_turns nodes node owner

-- the reply to a message of this turn, where the owner has sent this many turns, and the part has taken this many
unfoldable pub carry_reply : (sent have turn : ℕ) → Reply
carry_reply sent have turn =
    if nat_lt sent turn then Unsent
    else (if nat_le turn have then RepeatHave have
    else (if nat_lt (have + 1) turn then EarlyHave have else Applied))

-- a node with one turn more of an owner in this part
abbrev pub with_taken : Part → Taken → (owner turn : ℕ) → Taken
with_taken Table taken owner turn = record taken { tables = slice_set taken.tables owner turn }
with_taken Fib taken owner turn = record taken { fibs = slice_set taken.fibs owner turn }

abbrev pub nodes_by : List Taken → (node owner turn : ℕ) → Part → Reply → List Taken
nodes_by nodes node owner turn part Applied = slice_set nodes node (with_taken part (taken_by nodes node) owner turn)
nodes_by nodes node owner turn part _ = nodes

-- what the nodes have taken after a message
unfoldable pub after_carry : Journals → List Taken → (node owner turn : ℕ) → Part → List Taken
after_carry journals nodes node owner turn part =
    nodes_by nodes node owner turn part (carry_reply (length (journal_of journals owner)) (turns_taken part nodes node owner) turn)

-- every node has taken all that was sent
unfoldable pub after_sync : Journals → List Taken → List Taken
after_sync journals nodes =
    let all = map (λ changes. length changes) journals in
    map (λ (taken : Taken). record { tables = all; fibs = all }) nodes
