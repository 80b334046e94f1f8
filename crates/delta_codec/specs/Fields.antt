-- The fields of which octets are read as a message, and the first of them that is at fault.
use Rattle.std.specs.Prelude.{ℕ, zero, suc, ◌+◌, ◌*◌, ◌%◌, ◌^◌, ◌==◌, ◌&&◌, ◌||◌, nat_lt, nat_le, Bool, true, if◌then◌else◌, List, [], ◌∷◌, ◌++◌, length, take, drop, slice_index, Option, Some, None, option_map}
use Rattle.std.specs.Option.{option_or}
use Rattle.std.specs.Int.{w16, from_be_bytes}
use Rattle.block_layout.specs.Limits.{group_count}
use Rattle.flow_types.specs.Size.{Size, value_bits}
use Rattle.group_search.specs.Limits.{fewest_rows, most_rows}
use Rattle.delta_codec.specs.declared.refused.BadField.{BadField}
use Rattle.delta_codec.specs.declared.refused.BadField.TheVariants.{Kind, Owner, Turn, Block, Group, Body, Count, Order, Node}
use Rattle.delta_codec.specs.declared.refused.DecodeRefused.{DecodeRefused}
use Rattle.delta_codec.specs.declared.refused.DecodeRefused.TheVariants.{Short, Bad}

-- a field: where it begins, how many octets it has, and what is wrong with it where it breaks its rule
pub record MessageField : Type 0 where
  pub at : ℕ
  pub octets : ℕ
  pub broken : Option BadField

-- what is wrong where a rule isn't met
abbrev pub unless : (met : Bool) → BadField → Option BadField
unless met why = if met then None else Some why

-- a field with a rule, and one with none
abbrev pub ruled : (at octets : ℕ) (met : Bool) → BadField → MessageField
ruled at octets met why = record { at = at; octets = octets; broken = unless met why }

abbrev pub free : (at octets : ℕ) → MessageField
free at octets = record { at = at; octets = octets; broken = None }

-- the octet at a place, and the numbers in the octets from a place on, the greatest octet first
abbrev pub byte_at : List ℕ → (at : ℕ) → ℕ
byte_at bytes at = slice_index bytes at

abbrev pub two_at : List ℕ → (at : ℕ) → ℕ
two_at bytes at = from_be_bytes w16 (take 2 (drop at bytes))

unfoldable pub number_of : List ℕ → ℕ
number_of [] = 0
number_of (octet ∷ octets) = octet * 256 ^ length octets + number_of octets

abbrev pub key_number_at : List ℕ → (at : ℕ) → ℕ
key_number_at bytes at = number_of (take 13 (drop at bytes))

-- what each message begins with
abbrev pub kind_field : List ℕ → MessageField
kind_field bytes = ruled 0 1 (byte_at bytes 0 == 0x11 || byte_at bytes 0 == 0x12) Kind

abbrev pub owner_field : Size → List ℕ → MessageField
owner_field size bytes = ruled 1 1 (nat_lt (byte_at bytes 1) size.nodes) Owner

abbrev pub turn_number_field : List ℕ → MessageField
turn_number_field bytes = ruled 2 2 (nat_lt 0 (two_at bytes 2)) Turn

abbrev pub block_field : Size → List ℕ → MessageField
block_field size bytes = ruled 4 2 (nat_lt (two_at bytes 4) size.blocks && two_at bytes 4 % size.nodes == byte_at bytes 1) Block

abbrev pub group_field : List ℕ → MessageField
group_field bytes = ruled 6 1 (nat_lt (byte_at bytes 6) group_count) Group

abbrev pub head_fields : Size → List ℕ → List MessageField
head_fields size bytes = kind_field bytes ∷ owner_field size bytes ∷ turn_number_field bytes ∷ block_field size bytes ∷ group_field bytes ∷ []

-- as many pairs as are counted, each an index and its array
abbrev pub pair_fields : (count at : ℕ) → List MessageField
pair_fields zero at = []
pair_fields (suc count) at = free at 2 ∷ free (at + 2) 1 ∷ pair_fields count (at + 3)

-- the key is greater than the one of the row before, if there is one
abbrev pub is_above : (before : Option ℕ) → (key : ℕ) → Bool
is_above None key = true
is_above (Some before) key = nat_lt before key

abbrev pub key_field : List ℕ → (before : Option ℕ) → (at : ℕ) → MessageField
key_field bytes before at = ruled at 13 (is_above before (key_number_at bytes at)) Order

abbrev pub row_node_field : (nodes : ℕ) → List ℕ → (at : ℕ) → MessageField
row_node_field nodes bytes at = ruled at 1 (nat_lt (byte_at bytes at) nodes) Node

-- as many rows as are counted, each a key and its node, after a row with the key `before`
abbrev pub row_fields : (nodes : ℕ) → List ℕ → (count : ℕ) (before : Option ℕ) (at : ℕ) → List MessageField
row_fields nodes bytes zero before at = []
row_fields nodes bytes (suc count) before at =
    key_field bytes before at ∷ row_node_field nodes bytes (at + 13) ∷ row_fields nodes bytes count (Some (key_number_at bytes at)) (at + 14)

abbrev pub count_field : List ℕ → (at : ℕ) → MessageField
count_field bytes at = ruled at 1 (nat_le fewest_rows (byte_at bytes at) && nat_le (byte_at bytes at) most_rows) Count

-- the body of a table message: a pair for each value bit, or rows after their number
abbrev pub content_fields : Size → List ℕ → (at : ℕ) → List MessageField
content_fields size bytes at =
    ruled at 1 (nat_lt (byte_at bytes at) 2) Body
    ∷ (if byte_at bytes at == 0 then pair_fields (value_bits size.nodes) (at + 1)
    else count_field bytes (at + 1) ∷ row_fields size.nodes bytes (byte_at bytes (at + 1)) None (at + 2))

-- the body of a FIB message: nothing, a key with its TEID and base, or a key
abbrev pub operation_fields : List ℕ → (at : ℕ) → List MessageField
operation_fields bytes at =
    ruled at 1 (nat_lt (byte_at bytes at) 3) Body
    ∷ (if byte_at bytes at == 0 then []
    else (if byte_at bytes at == 1 then free (at + 1) 13 ∷ free (at + 14) 4 ∷ free (at + 18) 4 ∷ []
    else free (at + 1) 13 ∷ []))

-- the fields of the message that the octets begin with, in their order
abbrev pub fields : Size → List ℕ → List MessageField
fields size bytes = head_fields size bytes ++ (if byte_at bytes 0 == 0x11 then content_fields size bytes 7 else operation_fields bytes 7)

-- Short, where the octets end before these from a place on do
abbrev pub missing : List ℕ → (at octets : ℕ) → Option DecodeRefused
missing bytes at octets = if nat_lt (length bytes) (at + octets) then Some Short else None

-- what a field's fault is: it isn't wholly there, or it is and breaks its rule
abbrev pub field_fault : List ℕ → MessageField → Option DecodeRefused
field_fault bytes field = option_or (missing bytes field.at field.octets) (option_map (λ why. Bad field.at why) field.broken)

-- the first fault of the fields
abbrev pub first_fault : List ℕ → List MessageField → Option DecodeRefused
first_fault bytes [] = None
first_fault bytes (field ∷ fields) = option_or (field_fault bytes field) (first_fault bytes fields)
