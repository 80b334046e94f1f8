-- What contracts see of the two ends of a link.
use Rattle.std.specs.Prelude.{◌≡◌, ℕ, List, [], ◌∷◌, ◌++◌, Option, Some, None}
use Rattle.std.specs.Global.{Global}
use Rattle.smallvec.specs.SmallVec.{SmallVec}
use Rattle.atomic_blocks.specs.declared.web.Seat.{Seat}
use Rattle.crossbeam_queue.specs.declared.seg_queue.Going.{Going}
use Rattle.crossbeam_queue.specs.SegTies.{IsSegPassOf, SegId}
use Rattle.flow_types.specs.Size.{Size}
use Rattle.delta_codec.specs.declared.message.Message.{Message}
use Rattle.delta_codec.specs.Fits.{Fits}
use Rattle.node_link.specs.declared.rule.Log.{Log}
use Rattle.node_link.specs.declared.taken.Taken.{Taken}
use Rattle.node_link.specs.declared.taken.Taken.TheVariants.{Item, Empty}
use Rattle.node_link.specs.Rule.{sender_log, spent_log, taker_log}

-- an end: its link, the shape of the link's messages, and all that it sent, or all that it took
pub record End : Type 0 where
  pub line : SegId Global
  pub size : Size
  pub messages : List Message

-- what was taken fits the shape, and is the message that the end took last; or nothing was taken
abbrev pub TakesNext : (before : End) → Taken → (after : End) → Type 0
TakesNext before (Item message) after = Fits before.size message × (after.messages ≡ before.messages ++ message ∷ [])
TakesNext before Empty after = after.messages ≡ before.messages

-- a pass at a queue of letters
abbrev pub Port : Type 0
Port = Seat (Option (SmallVec ℕ)) (Going (SmallVec ℕ) Log) Global

-- the pass is at this queue, and knows this
pub record IsPort (queue : SegId Global) (port : Port) (log : Log) : Type 0 where
  pub there : IsSegPassOf queue port
  pub knows : port.me.view.client ≡ log

-- what the pass knows
abbrev pub log_of : Option Port → Log
log_of None = spent_log
log_of (Some port) = port.me.view.client

-- what is seen of the end that sends, and of the one that takes
abbrev pub sender_end : SegId Global → Option Port → End
sender_end queue port = record { line = queue; size = (log_of port).shape; messages = (log_of port).sent }

abbrev pub taker_end : SegId Global → Option Port → End
taker_end queue port = record { line = queue; size = (log_of port).shape; messages = (log_of port).taken }

-- the pass is there, and may send
abbrev pub IsSender : SegId Global → Option Port → Type 0
IsSender queue None = ⊥
IsSender queue (Some port) = IsPort queue port (sender_log port.me.view.client.shape port.me.view.client.sent)

-- the pass is there, and may take
abbrev pub IsTaker : SegId Global → Option Port → Type 0
IsTaker queue None = ⊥
IsTaker queue (Some port) = IsPort queue port (taker_log port.me.view.client.shape port.me.view.client.taken)
