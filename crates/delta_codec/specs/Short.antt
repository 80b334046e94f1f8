-- Messages without rows, and what octets begin with up to the rows of a message that has rows.
use Rattle.std.specs.Prelude.{⊤, ℕ, ◌≡◌, ◌≤◌, ◌+◌, ◌==◌, nat_lt, if◌then◌else◌, List, [], ◌∷◌, ◌++◌}
use Rattle.flow_types.specs.Size.{Size, value_bits}
use Rattle.group_search.specs.Limits.{fewest_rows, most_rows}
use Rattle.group_search.specs.declared.record.GroupRecord.{GroupRecord}
use Rattle.group_search.specs.declared.record.GroupRecord.TheVariants as content
use Rattle.delta_codec.specs.declared.heading.Head.{Head}
use Rattle.delta_codec.specs.declared.message.Message.{Message}
use Rattle.delta_codec.specs.declared.message.Message.TheVariants as whole
use Rattle.delta_codec.specs.declared.message.ShortMessage.{ShortMessage}
use Rattle.delta_codec.specs.declared.message.ShortMessage.TheVariants.{Table, Fib}
use Rattle.delta_codec.specs.declared.refused.BadField.TheVariants.{Body}
use Rattle.delta_codec.specs.declared.starting.Start.{Start}
use Rattle.delta_codec.specs.declared.starting.Start.TheVariants.{Short, Rows}
use Rattle.delta_codec.specs.Fields.{MessageField, byte_at, count_field, head_fields, operation_fields, pair_fields, ruled}
use Rattle.delta_codec.specs.Fits.{HeadFits}
use Rattle.delta_codec.specs.Spelling.{BeginsWith, Stand, head}
use Rattle.delta_codec.specs.Values.{IsMessage}

-- the message that a short one is
abbrev pub message_of : ShortMessage → Message
message_of (Table m) = whole.Table (record { owner = m.owner; turn = m.turn; block = m.block; group = m.group; content = content.Served m.served })
message_of (Fib m) = whole.Fib m

-- the record has rows
abbrev pub HasRowsIn : GroupRecord → Type 0
HasRowsIn (content.Served pairs) = ⊥
HasRowsIn (content.Fallback rows) = ⊤

-- the message has rows
abbrev pub IsOfRows : Message → Type 0
IsOfRows (whole.Table m) = HasRowsIn m.content
IsOfRows (whole.Fib m) = ⊥

-- the octets are those of a message with rows, as far as the octet that says so
abbrev pub HasRows : List ℕ → Type 0
HasRows bytes = (byte_at bytes 0 ≡ 0x11) × (byte_at bytes 7 ≡ 1)

-- the body of a table message up to its rows: a pair for each value bit, or the number of rows
abbrev pub content_start_fields : Size → List ℕ → (at : ℕ) → List MessageField
content_start_fields size bytes at =
    ruled at 1 (nat_lt (byte_at bytes at) 2) Body
    ∷ (if byte_at bytes at == 0 then pair_fields (value_bits size.nodes) (at + 1) else count_field bytes (at + 1) ∷ [])

-- the fields of the message that the octets begin with, in their order, up to its rows
abbrev pub start_fields : Size → List ℕ → List MessageField
start_fields size bytes = head_fields size bytes ++ (if byte_at bytes 0 == 0x11 then content_start_fields size bytes 7 else operation_fields bytes 7)

-- the head of a message with rows stands there, and their number
pub record IsRowsStart (size : Size) (bytes : List ℕ) (at_head : Head) (count : ℕ) : Type 0 where
  pub fits : HeadFits size at_head.owner at_head.turn at_head.block at_head.group
  pub head_stands : Stand bytes 0 (head 0x11 at_head.owner at_head.turn at_head.block at_head.group)
  pub count_stands : Stand bytes 7 (1 ∷ count ∷ [])
  pub enough : fewest_rows ≤ count
  pub few : count ≤ most_rows

-- what the octets begin with
abbrev pub IsStart : Size → List ℕ → Start → Type 0
IsStart size bytes (Short message used) = BeginsWith size bytes (message_of message) used × IsMessage (message_of message)
IsStart size bytes (Rows at_head count) = IsRowsStart size bytes at_head count
