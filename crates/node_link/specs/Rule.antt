-- What was sent is what was taken and then what the queue holds. One pass at most may send, and it has the list of what was
-- sent; one at most may take, and it has the list of what was taken. Both know the shape of the messages.
use Rattle.std.specs.Prelude.{ℕ, ◌+◌, ◌≡◌, true, false, List, [], ◌++◌}
use mathlib.Core.Option.{some}
use lib.ListN.{get_elem?}
use Rattle.smallvec.specs.SmallVec.{SmallVec}
use Rattle.flow_types.specs.Size.{Size}
use Rattle.delta_codec.specs.declared.message.Message.{Message}
use Rattle.node_link.specs.declared.rule.Log.{Log}
use Rattle.node_link.specs.Letter.{AreLetters}

-- a shape by its numbers
abbrev pub size_of : (nodes blocks : ℕ) → Size
size_of nodes blocks = record { nodes = nodes; blocks = blocks }

-- the pass may send and take
abbrev pub full_log : Size → (sent taken : List Message) → Log
full_log size sent taken = record { shape = size; sends = true; takes = true; sent = sent; taken = taken }

-- the pass may send
abbrev pub sender_log : Size → (sent : List Message) → Log
sender_log size sent = record { shape = size; sends = true; takes = false; sent = sent; taken = [] }

-- the pass may take
abbrev pub taker_log : Size → (taken : List Message) → Log
taker_log size taken = record { shape = size; sends = false; takes = true; sent = []; taken = taken }

-- the pass may do nothing
abbrev pub spent_log : Log
spent_log = record { shape = size_of 0 0; sends = false; takes = false; sent = []; taken = [] }

-- the first pass, which doesn't yet know the shape
abbrev pub new_log : Log
new_log = full_log (size_of 0 0) [] []

-- the shape, counted up: a rule can't know it before the queue is there
abbrev pub with_one_more_node : Log → Log
with_one_more_node log = record log { shape = size_of (log.shape.nodes + 1) log.shape.blocks }

abbrev pub with_one_more_block : Log → Log
with_one_more_block log = record log { shape = size_of log.shape.nodes (log.shape.blocks + 1) }

-- the taker's part and the sender's, together
abbrev pub both_logs : (taker sender : Log) → Log
both_logs taker sender = full_log taker.shape sender.sent taker.taken

-- what the pass of this number knows is so
pub record Knows (sender taker : ℕ) (size : Size) (sent taken : List Message) (pass : ℕ) (log : Log) : Type 0 where
  pub sends : log.sends ≡ true → (pass ≡ sender) × (log.shape ≡ size) × (log.sent ≡ sent)
  pub takes : log.takes ≡ true → (pass ≡ taker) × (log.shape ≡ size) × (log.taken ≡ taken)

-- the rule
pub record Carries (letters : List (SmallVec ℕ)) (logs : List Log) : Type 0 where
  pub sender : ℕ
  pub taker : ℕ
  pub size : Size
  pub sent : List Message
  pub taken : List Message
  pub queued : List Message
  pub in_order : sent ≡ taken ++ queued
  pub spelled : AreLetters size letters queued
  pub known : (pass : ℕ) (log : Log) → get_elem? logs pass ≡ some log → Knows sender taker size sent taken pass log
