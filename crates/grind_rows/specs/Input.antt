-- All rows of a grind.
use Rattle.std.specs.Prelude.{ℕ, ◌+◌, ◌*◌, ◌%◌, ◌==◌, if◌then◌else◌, List, [], ◌∷◌, ◌++◌, codes, map}
use Rattle.std.specs.List.{concat, range_with_len}
use Rattle.line_text.specs.Line.{line_of}
use Rattle.grind_rows.specs.Made.{changed_flow, flow, ingress, moved_flow, new_flow, packet_key, packets_draw}
use Rattle.grind_rows.specs.Rows.{del_row, flow_row, packet_text}

-- the row of one word
abbrev pub word_row : List ℕ → List ℕ
word_row word = line_of (word ∷ [])

-- a row for each number below the count, in order
abbrev pub rows_below : (count : ℕ) → (ℕ → List ℕ) → List ℕ
rows_below count row = concat (map row (range_with_len 0 count))

-- the rows of this number of flows, from the first on
unfoldable pub flow_rows : (seed count : ℕ) → List ℕ
flow_rows seed count = rows_below count (λ number. flow_row (codes "flow") (flow seed number))

-- the row of an update: of each four, two move a flow, one deletes one, and one sets a new one
abbrev pub update_row : (seed update : ℕ) → List ℕ
update_row seed update =
    if update % 4 == 3 then flow_row (codes "set") (new_flow seed update)
    else if update % 4 == 2 then del_row (changed_flow seed update).key
    else flow_row (codes "set") (moved_flow seed update)

-- the row of a packet, which takes the draw of this number and the next
abbrev pub packet_row : (seed number : ℕ) → List ℕ
packet_row seed number = packet_text (ingress seed number) (packet_key seed (number + 1))

-- the rows of this number of packets, two draws each, from the draw of the number `first` on
unfoldable pub packet_rows : (seed first count : ℕ) → List ℕ
packet_rows seed first count = rows_below count (λ packet. packet_row seed (first + 2 * packet))

-- the `sync` that follows every tenth update and its packets
abbrev pub sync_rows : (update : ℕ) → List ℕ
sync_rows update = if update % 10 == 9 then word_row (codes "sync") else []

-- the rows of an update and of what follows it before the next: 20 packets, and maybe a `sync`
unfoldable pub turn : (seed update : ℕ) → List ℕ
turn seed update = update_row seed update ++ packet_rows seed (packets_draw update) 20 ++ sync_rows update

-- the rows of this number of updates, from the first on, and of what follows them
unfoldable pub turns : (seed count : ℕ) → List ℕ
turns seed count = rows_below count (turn seed)

-- all rows of the seed
unfoldable pub grind_octets : (seed : ℕ) → List ℕ
grind_octets seed =
    word_row (codes "cluster,4,16") ++ flow_rows seed 16384 ++ word_row (codes "begin") ++ turns seed 1000 ++ word_row (codes "end")
