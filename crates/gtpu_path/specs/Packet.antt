-- The headers of an IPv4 packet, and which octets are refused as one.
use Rattle.std.specs.Prelude.{ℕ, ◌+◌, ◌*◌, ◌/◌, ◌%◌, ◌^◌, ◌==◌, ◌&&◌, ◌||◌, not, nat_lt, Bool, if◌then◌else◌, List, [], ◌∷◌, ◌++◌, codes, length, Result}
use Rattle.std.specs.Fmt.{decimal}
use Rattle.flow_types.specs.declared.key.FlowKey.{FlowKey}
use Rattle.gtpu_path.specs.declared.packet.PacketHead.{PacketHead}
use Rattle.gtpu_path.specs.declared.packet.PacketRefused.{PacketRefused}
use Rattle.gtpu_path.specs.declared.packet.PacketRefused.TheVariants.{Short, Version, HeaderLength, TotalLength, Fragment, NoPorts}
use Rattle.gtpu_path.specs.Octets.{octet_at, two_at, four_at}
use Rattle.gtpu_path.specs.Rules.{Rule, rule, first_broken, unless_refused}

-- RFC 791, section 3.1: the fields of the header that are read
abbrev pub version_in : List ℕ → ℕ
version_in octets = octet_at 0 octets / 16

abbrev pub header_words_in : List ℕ → ℕ
header_words_in octets = octet_at 0 octets % 16

abbrev pub total_length_in : List ℕ → ℕ
total_length_in octets = two_at 2 octets

abbrev pub fragment_offset_in : List ℕ → ℕ
fragment_offset_in octets = two_at 6 octets % 2 ^ 13

abbrev pub protocol_in : List ℕ → ℕ
protocol_in octets = octet_at 9 octets

abbrev pub source_in : List ℕ → ℕ
source_in octets = four_at 12 octets

abbrev pub destination_in : List ℕ → ℕ
destination_in octets = four_at 16 octets

-- how many octets the header has: its length is told in words of four
abbrev pub header_length_in : List ℕ → ℕ
header_length_in octets = 4 * header_words_in octets

-- TCP is 6 and UDP 17: their headers begin with two ports (RFC 9293, section 3.1; RFC 768)
abbrev pub has_ports : (protocol : ℕ) → Bool
has_ports protocol = protocol == 6 || protocol == 17

-- the port `after_header` octets after the header, or 0 where the protocol has none
abbrev pub port_in : (after_header : ℕ) → List ℕ → ℕ
port_in after_header octets = if has_ports (protocol_in octets) then two_at (header_length_in octets + after_header) octets else 0

abbrev pub key_in : List ℕ → FlowKey
key_in octets = record {
  source = source_in octets;
  destination = destination_in octets;
  source_port = port_in 0 octets;
  destination_port = port_in 2 octets;
  protocol = protocol_in octets;
}

-- what a packet's headers say
abbrev pub head_in : List ℕ → PacketHead
head_in octets = record { key = key_in octets; total = total_length_in octets }

-- the rules of a packet, in the order in which they are looked at: an IPv4 header is there, of version 4, with at least
-- five words; the packet reaches beyond its header and no further than the octets; it is no later fragment; and ports are
-- there where the protocol has some
abbrev pub packet_rules : List ℕ → List (Rule PacketRefused)
packet_rules octets =
    rule (nat_lt (length octets) 20) Short
    ∷ rule (not (version_in octets == 4)) (Version (version_in octets))
    ∷ rule (nat_lt (header_words_in octets) 5) (HeaderLength (header_words_in octets))
    ∷ rule (nat_lt (total_length_in octets) (header_length_in octets) || nat_lt (length octets) (total_length_in octets)) (TotalLength (total_length_in octets))
    ∷ rule (not (fragment_offset_in octets == 0)) (Fragment (fragment_offset_in octets))
    ∷ rule (has_ports (protocol_in octets) && nat_lt (total_length_in octets) (header_length_in octets + 4)) NoPorts
    ∷ []

-- what the octets are read as: the headers of a packet, or the first broken rule
unfoldable pub packet_in : List ℕ → Result PacketHead PacketRefused
packet_in octets = unless_refused (first_broken (packet_rules octets)) (head_in octets)

-- how a refusal is printed
abbrev pub refusal_text : PacketRefused → List ℕ
refusal_text Short = codes "fewer octets than the shortest header"
refusal_text (Version version) = codes "version " ++ decimal version
refusal_text (HeaderLength words) = codes "a header of " ++ decimal words ++ codes " words"
refusal_text (TotalLength total) = codes "a length of " ++ decimal total ++ codes " octets"
refusal_text (Fragment offset) = codes "a fragment from " ++ decimal offset ++ codes " on"
refusal_text NoPorts = codes "no ports"
