-- The octets of a G-PDU, and which octets are refused as one.
use Rattle.std.specs.Prelude.{ℕ, ◌+◌, ◌==◌, not, nat_lt, List, [], ◌∷◌, ◌++◌, length, drop, codes, Result}
use Rattle.std.specs.Fmt.{decimal}
use Rattle.gtpu_path.specs.declared.tunnel.GpduRefused.{GpduRefused}
use Rattle.gtpu_path.specs.declared.tunnel.GpduRefused.TheVariants.{Short, Flags, MessageType, Length}
use Rattle.gtpu_path.specs.Octets.{octet_at, two_at, four_at, in_two, in_four}
use Rattle.gtpu_path.specs.Rules.{Rule, rule, first_broken, unless_refused}

-- 3GPP TS 29.281, section 5.1: version 1, protocol type GTP and no optional field; message type 255; the length of what
-- follows the header; the TEID; and the packet that is carried
unfoldable pub gpdu_octets : (teid : ℕ) (packet : List ℕ) → List ℕ
gpdu_octets teid packet = 0x30 ∷ 255 ∷ in_two (length packet) ++ in_four teid ++ packet

abbrev pub length_in : List ℕ → ℕ
length_in octets = two_at 2 octets

abbrev pub teid_in : List ℕ → ℕ
teid_in octets = four_at 4 octets

-- what follows the header
abbrev pub carried_in : List ℕ → List ℕ
carried_in octets = drop 8 octets

-- the rules of a G-PDU, in the order in which they are looked at: a header is there, without optional fields, of a G-PDU,
-- and its length is that of what follows
abbrev pub gpdu_rules : List ℕ → List (Rule GpduRefused)
gpdu_rules octets =
    rule (nat_lt (length octets) 8) Short
    ∷ rule (not (octet_at 0 octets == 0x30)) (Flags (octet_at 0 octets))
    ∷ rule (not (octet_at 1 octets == 255)) (MessageType (octet_at 1 octets))
    ∷ rule (not (8 + length_in octets == length octets)) (Length (length_in octets))
    ∷ []

-- what the octets are read as: the TEID of a G-PDU, or the first broken rule
unfoldable pub tunnel_in : List ℕ → Result ℕ GpduRefused
tunnel_in octets = unless_refused (first_broken (gpdu_rules octets)) (teid_in octets)

-- how a refusal is printed
abbrev pub refusal_text : GpduRefused → List ℕ
refusal_text Short = codes "fewer octets than the header"
refusal_text (Flags octet) = codes "flags " ++ decimal octet
refusal_text (MessageType octet) = codes "message type " ++ decimal octet
refusal_text (Length length) = codes "a length of " ++ decimal length ++ codes " octets"
