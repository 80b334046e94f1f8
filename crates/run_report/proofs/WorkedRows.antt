-- Worked runs: their events and replies, and what is printed of them.
use Rattle.std.specs.Prelude.{◌≡◌, ℕ, List, [], ◌∷◌, ◌++◌, codes, map, refl}
use Rattle.std.specs.Fmt.{digits}
use Rattle.std.specs.List.{concat}
use Rattle.flow_types.specs.Text.{address_text}
use Rattle.flow_types.specs.declared.key.FlowKey.{FlowKey}
use Rattle.flow_types.specs.declared.record.Record.{Record}
use Rattle.packet_reader.specs.declared.event.Event.{Event}
use Rattle.packet_reader.specs.declared.event.Event.TheVariants.{Set, Del, Packet, Carry, Sync}
use Rattle.packet_reader.specs.declared.event.Part.TheVariants.{Table, Fib}
use Rattle.group_history.specs.declared.refused.UpdateRefused.TheVariants.{Spent, Absent, BlockFull, RowsFull}
use Rattle.run_model.specs.declared.reply.Reply.TheVariants.{Accepted, Refused, Found, Unknown, Nowhere, Applied, RepeatHave, EarlyHave, Unsent, Synced}
use Rattle.line_text.specs.Line.{line_feed}
use Rattle.run_report.specs.Report.{accepted_line, carry_line, found_line, last_line, lines, nowhere_line, refused_line, report, unknown_line}

abbrev key : FlowKey
key = record { source = 167772161; destination = 3221225991; source_port = 1000; destination_port = 443; protocol = 6 }

-- 192.168.0.9 and 192.168.0.10
abbrev old : Record
old = record { teid = 77; base = 3232235529 }

abbrev new : Record
new = record { teid = 78; base = 3232235530 }

abbrev set_to : (node : ℕ) → Record → Event
set_to node info = Set (record { key = key; node = node; info = info })

abbrev printed : List (List ℕ) → List ℕ
printed rows = concat (map (λ (row : List ℕ). row ++ line_feed) rows)

-- a handler that is behind, and one that is ahead
behind_and_ahead : report
    (set_to 2 new ∷ Carry 0 0 1 Table ∷ Packet 0 key ∷ Carry 2 0 1 Fib ∷ Packet 0 key ∷ Packet 3 key ∷ Carry 1 0 1 Fib ∷ Packet 3 key ∷ [])
    (Accepted 0 1 ∷ Applied ∷ Unknown 2 1 0 ∷ Applied ∷ Found 2 1 1 new ∷ Found 1 0 0 old ∷ Applied ∷ Unknown 1 0 1 ∷ [])
    ≡ printed
    (codes "set accepted owner 0 turn 1"
    ∷ codes "carry applied"
    ∷ codes "packet 0 in 0 to 2 hops 1 seen 1 fib 0 unknown"
    ∷ codes "carry applied"
    ∷ codes "packet 1 in 0 to 2 hops 1 seen 1 fib 1 teid 78 base 192.168.0.10"
    ∷ codes "packet 2 in 3 to 1 hops 1 seen 0 fib 0 teid 77 base 192.168.0.9"
    ∷ codes "carry applied"
    ∷ codes "packet 3 in 3 to 1 hops 1 seen 0 fib 1 unknown"
    ∷ codes "done packets 4 found 2 unknown 2"
    ∷ [])
unfolding report lines accepted_line carry_line found_line unknown_line last_line address_text digits
behind_and_ahead = refl

-- messages out of their order
out_of_order : report
    (set_to 1 old ∷ set_to 2 old ∷ Carry 0 0 2 Table ∷ Carry 0 0 1 Table ∷ Carry 0 0 1 Table ∷ Carry 0 0 9 Table ∷ Carry 0 3 1 Fib ∷ [])
    (Accepted 0 1 ∷ Accepted 0 2 ∷ EarlyHave 0 ∷ Applied ∷ RepeatHave 1 ∷ Unsent ∷ Unsent ∷ [])
    ≡ printed
    (codes "set accepted owner 0 turn 1"
    ∷ codes "set accepted owner 0 turn 2"
    ∷ codes "carry early have 0"
    ∷ codes "carry applied"
    ∷ codes "carry repeat have 1"
    ∷ codes "carry refused unsent"
    ∷ codes "carry refused unsent"
    ∷ codes "done packets 0 found 0 unknown 0"
    ∷ [])
unfolding report lines accepted_line carry_line last_line digits
out_of_order = refl

-- a key that isn't there
absent : report (Del key ∷ Packet 0 key ∷ []) (Refused Absent ∷ Unknown 0 0 0 ∷ [])
    ≡ printed (codes "del refused absent" ∷ codes "packet 0 in 0 to 0 hops 0 seen 0 fib 0 unknown" ∷ codes "done packets 1 found 0 unknown 1" ∷ [])
unfolding report lines refused_line unknown_line last_line digits
absent = refl

-- a `sync` prints nothing
set_and_synced : report (set_to 2 old ∷ Sync ∷ Packet 0 key ∷ []) (Accepted 0 1 ∷ Synced ∷ Found 2 1 1 old ∷ [])
    ≡ printed
    (codes "set accepted owner 0 turn 1"
    ∷ codes "packet 0 in 0 to 2 hops 1 seen 1 fib 1 teid 77 base 192.168.0.9"
    ∷ codes "done packets 1 found 1 unknown 0"
    ∷ [])
unfolding report lines accepted_line found_line last_line address_text digits
set_and_synced = refl

deleted_and_synced : report (Del key ∷ Sync ∷ Packet 0 key ∷ []) (Accepted 0 1 ∷ Synced ∷ Unknown 0 1 1 ∷ [])
    ≡ printed
    (codes "del accepted owner 0 turn 1"
    ∷ codes "packet 0 in 0 to 0 hops 0 seen 1 fib 1 unknown"
    ∷ codes "done packets 1 found 0 unknown 1"
    ∷ [])
unfolding report lines accepted_line unknown_line last_line digits
deleted_and_synced = refl

-- the last turn, and an update after it
last_turn : report (set_to 1 old ∷ set_to 1 old ∷ []) (Accepted 0 65535 ∷ Refused (Spent 65535) ∷ [])
    ≡ printed (codes "set accepted owner 0 turn 65535" ∷ codes "set refused spent" ∷ codes "done packets 0 found 0 unknown 0" ∷ [])
unfolding report lines accepted_line refused_line last_line digits
last_turn = refl

-- blocks that are full, and a packet that goes nowhere
full_and_nowhere : report (set_to 0 old ∷ set_to 0 old ∷ Packet 0 key ∷ []) (Refused (BlockFull 0) ∷ Refused (RowsFull 0 65 64) ∷ Nowhere 0 ∷ [])
    ≡ printed
    (codes "set refused blockfull block 0"
    ∷ codes "set refused rowsfull needed 65 free 64"
    ∷ codes "packet 0 in 0 seen 0 unknown"
    ∷ codes "done packets 1 found 0 unknown 1"
    ∷ [])
unfolding report lines refused_line nowhere_line last_line digits
full_and_nowhere = refl
