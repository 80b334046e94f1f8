-- What an applier makes of the messages that it took.
use Rattle.std.specs.Prelude.{◌≡◌, ◌≤◌, ℕ, ◌+◌, Bool, false, List, ◌∷◌, ◌++◌, length, map, slice_index_or, Result, Ok, Err, ⊤}
use Rattle.delta_codec.specs.declared.message.Message.{Message}
use Rattle.delta_codec.specs.declared.message.Message.TheVariants.{Table, Fib}
use Rattle.group_search.specs.declared.published.Publication.{Publication}
use Rattle.group_search.specs.Canon.{rows_in}
use Rattle.replica_shard.specs.declared.refused.ShardRefused.{ShardRefused}
use Rattle.replica_shard.specs.declared.shard.Shard.{Shard}
use Rattle.replica_shard.specs.Owners.{publication_of}
use Rattle.replica_shard.specs.Seats.{shard_at}
use Rattle.replica_shard.specs.Shard.{free_rows}
use Rattle.replica_shard.specs.Store.{shard_state_of}
use Rattle.partial_fib.specs.declared.refused.FibRefused.{FibRefused}
use Rattle.partial_fib.specs.declared.refused.FibRefused.TheVariants.{OutOfMemory}
use Rattle.partial_fib.specs.Ends.{WriterState}
use Rattle.packet_path.specs.Seated.{Seated}
use Rattle.turn_relay.specs.declared.state.State.{State}
use Rattle.turn_relay.specs.declared.state.State.TheVariants.{Clear, Stuck, Failed}
use Rattle.turn_relay.specs.Each.{Each}
use Rattle.turn_relay.specs.PartState.{ApplierState, PartState, link_of, taken_by}
use Rattle.turn_relay.specs.Sent.{fibs_in, tables_in}

-- the records of the messages for tables, as a table takes them
abbrev pub list_in : List Message → List Publication
list_in messages = map publication_of (tables_in messages)

-- after these messages this one isn't the owner's next turn, or has more rows than are free at the shard
abbrev pub IsOutOfTurn : Shard → (fib_owner : ℕ) → (before : List Message) → Message → Type 0
IsOutOfTurn shard fib_owner before (Table message) =
    message.owner ≡ shard.owner → message.turn ≡ length (tables_in before) + 1
    → rows_in message.content ≤ free_rows (shard_state_of (shard_at shard (list_in before))) message.block message.group → ⊥
IsOutOfTurn shard fib_owner before (Fib message) = message.owner ≡ fib_owner → message.turn ≡ length (fibs_in before) + 1 → ⊥

-- one of the messages is out of turn
pub record Stops (shard : Shard) (fib_owner : ℕ) (taken : List Message) : Type 0 where
  pub before : List Message
  pub message : Message
  pub rest : List Message
  pub whole : taken ≡ before ++ message ∷ rest
  pub refused : IsOutOfTurn shard fib_owner before message

-- the turns at the table and at the FIB are what was taken, in order; or a message was refused. After want of memory nothing is
-- said
abbrev pub Follow : Seated → WriterState → (taken : List Message) → State → Type 0
Follow table fib taken Clear = (table.list ≡ list_in taken) × (fib.turns ≡ fibs_in taken)
Follow table fib taken Stuck = Stops table.shard fib.opening.owner taken
Follow table fib taken Failed = Unit {0}

-- how far messages got, by the answer to the last of them
abbrev pub IsAfterTable : Result ⊤ ShardRefused → State → Type 0
IsAfterTable (Ok done) state = state ≡ Clear
IsAfterTable (Err cause) state = state ≡ Stuck

abbrev pub IsAfterFib : Result ⊤ FibRefused → State → Type 0
IsAfterFib (Ok done) state = state ≡ Clear
IsAfterFib (Err OutOfMemory) state = state ≡ Failed
IsAfterFib (Err cause) state = state ≡ Stuck

abbrev pub Follows : PartState → Type 0
Follows part = Follow part.table part.fib (taken_by part.end) part.state

-- of the same owner, table, FIB and link
pub record IsSamePart (before after : PartState) : Type 0 where
  pub size : after.size ≡ before.size
  pub owner : after.owner ≡ before.owner
  pub shard : after.table.shard ≡ before.table.shard
  pub book : after.fib.book ≡ before.fib.book
  pub opening : after.fib.opening ≡ before.fib.opening
  pub link : link_of after.end ≡ link_of before.end

-- and its turns still are what it took
pub record GoesOn (before after : PartState) : Type 0 where
  pub same : IsSamePart before after
  pub follows : Follows before → Follows after

-- whether the owner of this number works in the phase
abbrev pub works : (working : List Bool) → (owner : ℕ) → Bool
works working owner = slice_index_or working owner false

-- a part's turn in a phase: the part of an owner that doesn't work stays as it is
pub record PartDid (working : List Bool) (before after : PartState) : Type 0 where
  pub on : GoesOn before after
  pub rests : works working before.owner ≡ false → after ≡ before

abbrev pub ApplierDid : (working : List Bool) → (before after : ApplierState) → Type 0
ApplierDid working before after = (after.node ≡ before.node) × Each (PartDid working) before.parts after.parts
