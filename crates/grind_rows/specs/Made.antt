-- The flows and the events that a grind makes of its draws. Draws are numbered from 0 in the order in which they are made:
-- four for each flow that the cluster opens with; then for each update four where it sets a new key, and two for each of the 20
-- packets after it.
use Rattle.std.specs.Prelude.{ℕ, ◌+◌, ◌-◌, ◌*◌, ◌/◌, ◌%◌, ◌^◌, nat_lt, if◌then◌else◌}
use Rattle.flow_types.specs.declared.key.FlowKey.{FlowKey}
use Rattle.flow_types.specs.declared.record.Flow.{Flow}
use Rattle.grind_rows.specs.Draws.{draw}

-- a flow of this source and TEID: four draws, the first of this number, give its destination, its source port, its node and its
-- base
unfoldable pub drawn_flow : (seed first source teid : ℕ) → Flow
drawn_flow seed first source teid = record {
  key = record {
    source = source;
    destination = draw seed first % 2 ^ 32;
    source_port = 1024 + draw seed (first + 1) % 60000;
    destination_port = 443;
    protocol = 6;
  };
  node = draw seed (first + 2) % 4;
  info = record { teid = teid; base = 0xC0A80000 + draw seed (first + 3) % 256 };
}

-- the flow of this number, from 0, of the 16,384 that the cluster opens with; its source is 10.0.0.0 and its number
unfoldable pub flow : (seed number : ℕ) → Flow
flow seed number = drawn_flow seed (4 * number) (0x0A000000 + number) (number + 1)

-- ---- updates, numbered from 0

-- each changes another flow, every sixteenth
unfoldable pub changed_flow : (seed update : ℕ) → Flow
changed_flow seed update = flow seed (16 * update)

-- that flow at the next node, with another TEID
unfoldable pub moved_flow : (seed update : ℕ) → Flow
moved_flow seed update =
    let before = changed_flow seed update in
    record { key = before.key; node = (before.node + 1) % 4; info = record { teid = 20001 + update; base = before.info.base } }

-- how many draws come before this update: of each four updates the last sets a new key
abbrev pub update_draw : (update : ℕ) → ℕ
update_draw update = 4 * 16384 + 2 * 20 * update + 4 * (update / 4)

-- a flow of a new key, where the update sets one; its source is 10.1.0.0 and the update's number
unfoldable pub new_flow : (seed update : ℕ) → Flow
new_flow seed update = drawn_flow seed (update_draw update) (0x0A010000 + update) (40001 + update)

-- ---- packets

-- how many draws come before the packets after this update: its own are among them
unfoldable pub packets_draw : (update : ℕ) → ℕ
packets_draw update = 4 * 16384 + 2 * 20 * update + 4 * ((update + 1) / 4)

-- the node at which a packet enters, by the draw of this number
unfoldable pub ingress : (seed number : ℕ) → ℕ
ingress seed number = draw seed number % 4

-- the key of this number, from 0, of those that no flow ever has: 10.2.0.0 and the number, to 192.0.2.1
abbrev pub strange_key : (number : ℕ) → FlowKey
strange_key number = record { source = 0x0A020000 + number; destination = 0xC0000201; source_port = 1; destination_port = 443; protocol = 6 }

-- the key that is chosen of 16,640: a flow's, or one that no flow ever has
abbrev pub chosen_key : (seed chosen : ℕ) → FlowKey
chosen_key seed chosen = if nat_lt chosen 16384 then (flow seed chosen).key else strange_key (chosen - 16384)

-- the key of a packet, by the draw of this number
unfoldable pub packet_key : (seed number : ℕ) → FlowKey
packet_key seed number = chosen_key seed (draw seed number % 16640)
