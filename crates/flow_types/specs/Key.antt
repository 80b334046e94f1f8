-- A flow key as one number, and as its octets; when two keys are the same.
use Rattle.std.specs.Prelude.{ℕ, ◌+◌, ◌*◌, ◌/◌, ◌%◌, ◌^◌, ◌==◌, ◌&&◌, Bool, List, ◌<◌}
use Rattle.std.specs.Int.{bytes_high_first}
use Rattle.flow_types.specs.declared.key.FlowKey.{FlowKey}

-- a key is the number of its fields, the source from the greatest bits down to the protocol in the least
abbrev pub number : FlowKey → ℕ
number k = k.source * 2 ^ 72 + k.destination * 2 ^ 40 + k.source_port * 2 ^ 24 + k.destination_port * 2 ^ 8 + k.protocol

-- the key of a number below 2 ^ 104
abbrev pub key_of : ℕ → FlowKey
key_of n = record {
  source = n / 2 ^ 72;
  destination = n / 2 ^ 40 % 2 ^ 32;
  source_port = n / 2 ^ 24 % 2 ^ 16;
  destination_port = n / 2 ^ 8 % 2 ^ 16;
  protocol = n % 2 ^ 8;
}

-- the 13 octets of a key's number, the greatest first
unfoldable pub octets : FlowKey → List ℕ
octets k = bytes_high_first 13 (number k)

-- whether two keys are the same
abbrev pub same_key : FlowKey → FlowKey → Bool
same_key a b =
    (a.source == b.source) && ((a.destination == b.destination)
    && ((a.source_port == b.source_port) && ((a.destination_port == b.destination_port) && (a.protocol == b.protocol))))

-- addresses have 32 bits, ports 16, and a protocol 8
pub record IsKeyValue (key : FlowKey) : Type 0 where
  pub source : key.source < 2 ^ 32
  pub destination : key.destination < 2 ^ 32
  pub source_port : key.source_port < 2 ^ 16
  pub destination_port : key.destination_port < 2 ^ 16
  pub protocol : key.protocol < 2 ^ 8
