-- The printed lines of a run: one for each event but a `sync`, and the last line with the packets' counts.
use Rattle.std.specs.Prelude.{◌≡◌, ◌≢◌, ℕ, ◌+◌, ◌==◌, Bool, true, false, if◌then◌else◌, List, [], ◌∷◌, ◌++◌, codes, count_by}
use Rattle.std.specs.List.{AllZip}
use Rattle.std.specs.Fmt.{decimal}
use Rattle.flow_types.specs.declared.record.Record.{Record}
use Rattle.flow_types.specs.Text.{address_text}
use Rattle.line_text.specs.Line.{line_of}
use Rattle.packet_reader.specs.declared.event.Event.{Event}
use Rattle.packet_reader.specs.declared.event.Event.TheVariants.{Set, Del, Packet, Carry, Sync}
use Rattle.group_history.specs.declared.refused.UpdateRefused.{UpdateRefused}
use Rattle.group_history.specs.declared.refused.UpdateRefused.TheVariants.{Spent, Absent, BlockFull, RowsFull, OutOfMemory}
use Rattle.run_model.specs.declared.reply.Reply.{Reply}
use Rattle.run_model.specs.declared.reply.Reply.TheVariants.{Accepted, Refused, Found, Unknown, Nowhere, Applied, RepeatHave, EarlyHave, Unsent, Synced}

-- ---- updates

-- the line of an update that became this turn of the owner's; the word says whether it sets or deletes
unfoldable pub accepted_line : (word : List ℕ) → (owner turn : ℕ) → List ℕ
accepted_line word owner turn = line_of (word ∷ codes " accepted owner " ∷ decimal owner ∷ codes " turn " ∷ decimal turn ∷ [])

-- how many rows the update's group needs, and how many are free
abbrev pub rows_words : (needed free : ℕ) → List (List ℕ)
rows_words needed free = codes "rowsfull needed " ∷ decimal needed ∷ codes " free " ∷ decimal free ∷ []

-- for what an update was refused; a run ends where memory is wanting, so that is never printed
abbrev pub refusal_words : UpdateRefused → List (List ℕ)
refusal_words (Spent limit) = codes "spent" ∷ []
refusal_words Absent = codes "absent" ∷ []
refusal_words (BlockFull block) = codes "blockfull block " ∷ decimal block ∷ []
refusal_words (RowsFull block needed free) = rows_words needed free
refusal_words OutOfMemory = []

-- the line of an update that was refused
unfoldable pub refused_line : (word : List ℕ) → UpdateRefused → List ℕ
refused_line word refused = line_of (word ∷ codes " refused " ∷ refusal_words refused)

-- the line of an update; a reply of another kind has none
abbrev pub update_line : (word : List ℕ) → Reply → List ℕ
update_line word (Accepted owner turn) = accepted_line word owner turn
update_line word (Refused refused) = refused_line word refused
update_line word _ = []

-- ---- packets

-- how often a packet crosses the switch: not where its node is its ingress
abbrev pub hops : (ingress node : ℕ) → ℕ
hops ingress node = if node == ingress then 0 else 1

-- which packet it is, and where it came in
abbrev pub packet_words : (number ingress : ℕ) → List (List ℕ)
packet_words number ingress = codes "packet " ∷ decimal number ∷ codes " in " ∷ decimal ingress ∷ []

-- where it was sent, and how often it crossed the switch
abbrev pub node_words : (ingress node : ℕ) → List (List ℕ)
node_words ingress node = codes " to " ∷ decimal node ∷ codes " hops " ∷ decimal (hops ingress node) ∷ []

-- the version at the ingress
abbrev pub seen_words : (seen : ℕ) → List (List ℕ)
seen_words seen = codes " seen " ∷ decimal seen ∷ []

-- the version at the node
abbrev pub fib_words : (fib : ℕ) → List (List ℕ)
fib_words fib = codes " fib " ∷ decimal fib ∷ []

-- what the node knows of the flow
abbrev pub record_words : Record → List (List ℕ)
record_words info = codes " teid " ∷ decimal info.teid ∷ codes " base " ∷ address_text info.base ∷ []

-- that the flow isn't known, to the node or to the ingress
abbrev pub unknown_words : List (List ℕ)
unknown_words = codes " unknown" ∷ []

-- the line of a packet whose flow was found
unfoldable pub found_line : (number ingress node seen fib : ℕ) → Record → List ℕ
found_line number ingress node seen fib info =
    line_of (packet_words number ingress ++ node_words ingress node ++ seen_words seen ++ fib_words fib ++ record_words info)

-- the line of a packet whose flow its node doesn't know
unfoldable pub unknown_line : (number ingress node seen fib : ℕ) → List ℕ
unknown_line number ingress node seen fib =
    line_of (packet_words number ingress ++ node_words ingress node ++ seen_words seen ++ fib_words fib ++ unknown_words)

-- the line of a packet that its ingress sends nowhere
unfoldable pub nowhere_line : (number ingress seen : ℕ) → List ℕ
nowhere_line number ingress seen = line_of (packet_words number ingress ++ seen_words seen ++ unknown_words)

-- the line of a packet
abbrev pub packet_line : (number ingress : ℕ) → Reply → List ℕ
packet_line number ingress (Found node seen fib info) = found_line number ingress node seen fib info
packet_line number ingress (Unknown node seen fib) = unknown_line number ingress node seen fib
packet_line number ingress (Nowhere seen) = nowhere_line number ingress seen
packet_line number ingress _ = []

-- ---- messages

-- what became of a message
abbrev pub carry_words : Reply → List (List ℕ)
carry_words Applied = codes "carry applied" ∷ []
carry_words (RepeatHave have) = codes "carry repeat have " ∷ decimal have ∷ []
carry_words (EarlyHave have) = codes "carry early have " ∷ decimal have ∷ []
carry_words Unsent = codes "carry refused unsent" ∷ []
carry_words _ = []

-- the line of a message
unfoldable pub carry_line : Reply → List ℕ
carry_line reply = line_of (carry_words reply)

-- ---- all

-- the last line: how many packets there were, how many of their flows were found, and how many not
unfoldable pub last_line : (found unknown : ℕ) → List ℕ
last_line found unknown =
    line_of (codes "done packets " ∷ decimal (found + unknown) ∷ codes " found " ∷ decimal found ∷ codes " unknown " ∷ decimal unknown ∷ [])

-- the line of an event and its reply, after a number of packets; a `sync` has none
abbrev pub line : (packets : ℕ) → Event → Reply → List ℕ
line packets (Set flow) reply = update_line (codes "set") reply
line packets (Del key) reply = update_line (codes "del") reply
line packets (Packet ingress key) reply = packet_line packets ingress reply
line packets (Carry node owner turn part) reply = carry_line reply
line packets Sync reply = []

-- how many packets there are with this event, after a number of them
abbrev pub packets_with : (packets : ℕ) → Event → ℕ
packets_with packets (Packet ingress key) = packets + 1
packets_with packets _ = packets

-- the lines of events and their replies, in order; the packets are numbered from this number on
unfoldable pub lines : (packets : ℕ) → List Event → List Reply → List ℕ
lines packets (event ∷ script) (reply ∷ replies) = line packets event reply ++ lines (packets_with packets event) script replies
lines packets _ _ = []

abbrev pub is_found : Reply → Bool
is_found (Found node seen fib info) = true
is_found _ = false

abbrev pub is_unknown : Reply → Bool
is_unknown (Unknown node seen fib) = true
is_unknown (Nowhere seen) = true
is_unknown _ = false

-- all that a run prints
unfoldable pub report : List Event → List Reply → List ℕ
report script replies = lines 0 script replies ++ last_line (count_by is_found replies) (count_by is_unknown replies)

-- ---- one line for all

abbrev pub is_accepted : Reply → Bool
is_accepted (Accepted owner turn) = true
is_accepted _ = false

abbrev pub is_refused : Reply → Bool
is_refused (Refused refused) = true
is_refused _ = false

-- the line of a run over rows that were made from a seed: how many rows there were, how many of the updates were accepted and
-- how many refused, how many packets there were, how many of their flows were found, and how many not
unfoldable pub summary_line : (seed rows accepted refused found unknown : ℕ) → List ℕ
summary_line seed rows accepted refused found unknown =
    line_of
    (codes "grind seed " ∷ decimal seed ∷ codes " rows " ∷ decimal rows ∷ codes " accepted " ∷ decimal accepted ∷ codes " refused " ∷ decimal refused
    ∷ codes " packets " ∷ decimal (found + unknown) ∷ codes " found " ∷ decimal found ∷ codes " unknown " ∷ decimal unknown ∷ [])

-- all that is printed of such a run
unfoldable pub summary : (seed rows : ℕ) → List Reply → List ℕ
summary seed rows replies =
    summary_line seed rows (count_by is_accepted replies) (count_by is_refused replies) (count_by is_found replies) (count_by is_unknown replies)

-- ---- which replies are printed

-- a refusal that is printed: at want of memory a run ends
abbrev pub IsPrinted : UpdateRefused → Type 0
IsPrinted OutOfMemory = ⊥
IsPrinted _ = Unit {0}

-- an update may be answered so
abbrev pub IsOfUpdate : Reply → Type 0
IsOfUpdate (Accepted owner turn) = Unit {0}
IsOfUpdate (Refused refused) = IsPrinted refused
IsOfUpdate _ = ⊥

-- a packet may be answered so
abbrev pub IsOfPacket : Reply → Type 0
IsOfPacket (Found node seen fib info) = Unit {0}
IsOfPacket (Unknown node seen fib) = Unit {0}
IsOfPacket (Nowhere seen) = Unit {0}
IsOfPacket _ = ⊥

-- a message may be answered so
abbrev pub IsOfCarry : Reply → Type 0
IsOfCarry Applied = Unit {0}
IsOfCarry (RepeatHave have) = Unit {0}
IsOfCarry (EarlyHave have) = Unit {0}
IsOfCarry Unsent = Unit {0}
IsOfCarry _ = ⊥

-- the event may be answered so: a key that is set is never absent, and no block is too full to delete one
abbrev pub IsOfEvent : Event → Reply → Type 0
IsOfEvent (Set flow) reply = IsOfUpdate reply × (reply ≢ Refused Absent)
IsOfEvent (Del key) reply = IsOfUpdate reply × ((block : ℕ) → reply ≢ Refused (BlockFull block))
IsOfEvent (Packet ingress key) reply = IsOfPacket reply
IsOfEvent (Carry node owner turn part) reply = IsOfCarry reply
IsOfEvent Sync reply = reply ≡ Synced

-- there is one reply for each event, and each is of its event's kind
abbrev pub AreOfTheirEvents : List Event → List Reply → Type 0
AreOfTheirEvents script replies = AllZip IsOfEvent script replies
