-- Worked packets, G-PDUs and texts, octet by octet.
use Rattle.std.proofs.Common.{◌≡◌, ℕ, List, [], ◌∷◌, ◌++◌, take, slice_set, Ok, Err, refl}
use Rattle.std.specs.Prelude.{codes}
use Rattle.gtpu_path.specs.declared.hexadecimal.HexRefused.TheVariants as text
use Rattle.gtpu_path.specs.declared.packet.PacketRefused.TheVariants as packet
use Rattle.gtpu_path.specs.declared.tunnel.GpduRefused.TheVariants as tunnel
use Rattle.hex.specs.Hex.{decode_pairs, encode_with}
use Rattle.gtpu_path.specs.Hex.{hex_in, hex_text}
use Rattle.gtpu_path.specs.Packet.{packet_in}
use Rattle.gtpu_path.specs.Tunnel.{gpdu_octets, tunnel_in}

-- a packet of UDP without payload, from 10.0.0.1 port 1000 to 192.0.2.7 port 443
abbrev datagram : List ℕ
datagram =
    0x45 ∷ 0x00 ∷ 0x00 ∷ 0x1c ∷ 0x00 ∷ 0x00 ∷ 0x00 ∷ 0x00 ∷ 0x40 ∷ 0x11 ∷ 0x00 ∷ 0x00 ∷ 0x0a ∷ 0x00 ∷ 0x00 ∷ 0x01
    ∷ 0xc0 ∷ 0x00 ∷ 0x02 ∷ 0x07 ∷ 0x03 ∷ 0xe8 ∷ 0x01 ∷ 0xbb ∷ 0x00 ∷ 0x08 ∷ 0x00 ∷ 0x00 ∷ []

-- it is read with the octets of padding after it
datagram_read : packet_in (datagram ++ 0 ∷ 0 ∷ []) ≡ Ok (record {
  key = record { source = 0x0a000001; destination = 0xc0000207; source_port = 1000; destination_port = 443; protocol = 17 };
  total = 28;
})
unfolding packet_in
datagram_read = refl

-- of protocol 1 no ports are read
echo_read : packet_in (slice_set datagram 9 1) ≡ Ok (record {
  key = record { source = 0x0a000001; destination = 0xc0000207; source_port = 0; destination_port = 0; protocol = 1 };
  total = 28;
})
unfolding packet_in
echo_read = refl

-- the ports stand after six words: one word of options
options_read : packet_in (slice_set datagram 0 0x46) ≡ Ok (record {
  key = record { source = 0x0a000001; destination = 0xc0000207; source_port = 8; destination_port = 0; protocol = 17 };
  total = 28;
})
unfolding packet_in
options_read = refl

-- a first fragment is taken, a later one isn't: the flags are no part of the offset
first_fragment_read : packet_in (slice_set datagram 6 0x20) ≡ packet_in datagram
unfolding packet_in
first_fragment_read = refl

later_fragment_refused : packet_in (slice_set datagram 7 1) ≡ Err (packet.Fragment 1)
unfolding packet_in
later_fragment_refused = refl

short_refused : packet_in (take 19 datagram) ≡ Err packet.Short
unfolding packet_in
short_refused = refl

version_refused : packet_in (slice_set datagram 0 0x65) ≡ Err (packet.Version 6)
unfolding packet_in
version_refused = refl

header_length_refused : packet_in (slice_set datagram 0 0x44) ≡ Err (packet.HeaderLength 4)
unfolding packet_in
header_length_refused = refl

total_length_refused : packet_in (slice_set datagram 3 29) ≡ Err (packet.TotalLength 29)
unfolding packet_in
total_length_refused = refl

ports_refused : packet_in (slice_set datagram 3 23) ≡ Err packet.NoPorts
unfolding packet_in
ports_refused = refl

-- ---- G-PDUs

tunnelled : gpdu_octets 77 datagram ≡ 0x30 ∷ 0xff ∷ 0x00 ∷ 0x1c ∷ 0x00 ∷ 0x00 ∷ 0x00 ∷ 0x4d ∷ datagram
unfolding gpdu_octets
tunnelled = refl

-- all four octets of a TEID count
large_teid : gpdu_octets 305419896 [] ≡ 0x30 ∷ 0xff ∷ 0x00 ∷ 0x00 ∷ 0x12 ∷ 0x34 ∷ 0x56 ∷ 0x78 ∷ []
unfolding gpdu_octets
large_teid = refl

large_teid_read : tunnel_in (0x30 ∷ 0xff ∷ 0x00 ∷ 0x01 ∷ 0x12 ∷ 0x34 ∷ 0x56 ∷ 0x78 ∷ 0 ∷ []) ≡ Ok 305419896
unfolding tunnel_in
large_teid_read = refl

header_refused : tunnel_in (0x30 ∷ 0xff ∷ 0 ∷ 0 ∷ 0 ∷ 0 ∷ 0 ∷ []) ≡ Err tunnel.Short
unfolding tunnel_in
header_refused = refl

options_refused : tunnel_in (0x32 ∷ 0xff ∷ 0 ∷ 0 ∷ 0 ∷ 0 ∷ 0 ∷ 1 ∷ []) ≡ Err (tunnel.Flags 0x32)
unfolding tunnel_in
options_refused = refl

echo_request_refused : tunnel_in (0x30 ∷ 1 ∷ 0 ∷ 0 ∷ 0 ∷ 0 ∷ 0 ∷ 1 ∷ []) ≡ Err (tunnel.MessageType 1)
unfolding tunnel_in
echo_request_refused = refl

-- the length doesn't count the header
length_refused : tunnel_in (0x30 ∷ 0xff ∷ 0 ∷ 8 ∷ 0 ∷ 0 ∷ 0 ∷ 1 ∷ []) ≡ Err (tunnel.Length 8)
unfolding tunnel_in
length_refused = refl

-- ---- texts

digits_written : hex_text (0x0a ∷ 0xc0 ∷ 0xff ∷ []) ≡ codes "0ac0ff"
unfolding encode_with
digits_written = refl

digits_read : hex_in (codes "0aC0Ff") ≡ Ok (0x0a ∷ 0xc0 ∷ 0xff ∷ [])
unfolding hex_in decode_pairs
digits_read = refl

odd_refused : hex_in (codes "0g0") ≡ Err text.Odd
unfolding hex_in decode_pairs
odd_refused = refl

digit_refused : hex_in (codes "0agz") ≡ Err (text.Digit 2)
unfolding hex_in decode_pairs
digit_refused = refl
