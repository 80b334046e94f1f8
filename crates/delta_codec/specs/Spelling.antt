-- The octets of messages.
use Rattle.std.specs.Prelude.{ℕ, ◌+◌, ◌≡◌, ◌≤◌, List, [], ◌∷◌, ◌++◌, length, take, drop}
use Rattle.std.specs.List.{flat_map}
use Rattle.std.specs.Int.{w16, w32, to_be_bytes}
use Rattle.flow_types.specs.Key.{octets}
use Rattle.flow_types.specs.Size.{Size}
use Rattle.group_search.specs.declared.entry.Pair.{Pair}
use Rattle.group_search.specs.declared.record.GroupRecord.{GroupRecord}
use Rattle.group_search.specs.declared.record.GroupRecord.TheVariants.{Served, Fallback}
use Rattle.group_search.specs.declared.rows.Row.{Row}
use Rattle.delta_codec.specs.declared.message.FibOp.{FibOp}
use Rattle.delta_codec.specs.declared.message.FibOp.TheVariants.{Nothing, Put, Drop}
use Rattle.delta_codec.specs.declared.message.Message.{Message}
use Rattle.delta_codec.specs.declared.message.Message.TheVariants.{Table, Fib}
use Rattle.delta_codec.specs.Fits.{Fits}

-- a number in two octets, the greater first
abbrev pub two_octets : ℕ → List ℕ
two_octets n = to_be_bytes w16 n

-- a number in four octets, the greatest first
abbrev pub octets_of_word : ℕ → List ℕ
octets_of_word n = to_be_bytes w32 n

-- the fields that each message begins with
abbrev pub head : (kind owner turn block group : ℕ) → List ℕ
head kind owner turn block group = kind ∷ owner ∷ two_octets turn ++ two_octets block ++ group ∷ []

-- an index and its array
abbrev pub pair_octets : Pair → List ℕ
pair_octets pair = two_octets pair.index ++ pair.array ∷ []

-- a key and its node
abbrev pub row_octets : Row → List ℕ
row_octets row = octets row.key ++ row.node ∷ []

-- a record: 0 and its pairs, or 1, the number of its rows and its rows
abbrev pub content_octets : GroupRecord → List ℕ
content_octets (Served pairs) = 0 ∷ flat_map pair_octets pairs
content_octets (Fallback rows) = 1 ∷ length rows ∷ flat_map row_octets rows

-- a FIB's change: 0; 1, a key, a TEID and a base; or 2 and a key
abbrev pub operation_octets : FibOp → List ℕ
operation_octets Nothing = 0 ∷ []
operation_octets (Put key info) = 1 ∷ octets key ++ octets_of_word info.teid ++ octets_of_word info.base
operation_octets (Drop key) = 2 ∷ octets key

-- the octets of the message's fields, one after the other
abbrev pub spelling : Message → List ℕ
spelling (Table m) = head 0x11 m.owner m.turn m.block m.group ++ content_octets m.content
spelling (Fib m) = head 0x12 m.owner m.turn m.block m.group ++ operation_octets m.op

-- these octets stand in the bytes from a place on
pub record Stand (bytes : List ℕ) (at : ℕ) (octets : List ℕ) : Type 0 where
  pub there : at + length octets ≤ length bytes
  pub same : take (length octets) (drop at bytes) ≡ octets

-- the octets are those of the message's fields, and each field meets its rule
pub record Spells (size : Size) (bytes : List ℕ) (message : Message) : Type 0 where
  pub fits : Fits size message
  pub spelled : bytes ≡ spelling message

-- the octets up to this number spell the message
pub record BeginsWith (size : Size) (bytes : List ℕ) (message : Message) (used : ℕ) : Type 0 where
  pub there : used ≤ length bytes
  pub spells : Spells size (take used bytes) message
