-- The numbers that the fields of a message can hold.
use Rattle.std.specs.Prelude.{⊤, ℕ, ◌<◌, ◌^◌, All}
use Rattle.flow_types.specs.Key.{IsKeyValue}
use Rattle.flow_types.specs.Map.{IsRecordValue}
use Rattle.group_search.specs.declared.record.GroupRecord.{GroupRecord}
use Rattle.group_search.specs.declared.record.GroupRecord.TheVariants.{Served, Fallback}
use Rattle.group_search.specs.declared.rows.Row.{Row}
use Rattle.group_search.specs.Words.{IsPair}
use Rattle.delta_codec.specs.declared.message.FibOp.{FibOp}
use Rattle.delta_codec.specs.declared.message.FibOp.TheVariants.{Nothing, Put, Drop}
use Rattle.delta_codec.specs.declared.message.Message.{Message}
use Rattle.delta_codec.specs.declared.message.Message.TheVariants.{Table, Fib}

-- the numbers of a record
abbrev pub IsContent : GroupRecord → Type 0
IsContent (Served pairs) = All IsPair pairs
IsContent (Fallback rows) = All (λ (row : Row). IsKeyValue row.key) rows

-- the numbers of a FIB's change
abbrev pub IsOperation : FibOp → Type 0
IsOperation Nothing = ⊤
IsOperation (Put key info) = IsKeyValue key × IsRecordValue info
IsOperation (Drop key) = IsKeyValue key

-- an owner and a group have 8 bits, a turn 32 and a block 16
pub record IsHead (owner turn block group : ℕ) : Type 0 where
  pub owner_fits : owner < 2 ^ 8
  pub turn_fits : turn < 2 ^ 32
  pub block_fits : block < 2 ^ 16
  pub group_fits : group < 2 ^ 8

-- the numbers of a message
abbrev pub IsMessage : Message → Type 0
IsMessage (Table m) = IsHead m.owner m.turn m.block m.group × IsContent m.content
IsMessage (Fib m) = IsHead m.owner m.turn m.block m.group × IsOperation m.op
