-- Turns of an owner that a node's FIB takes, as a list of their messages.
use Rattle.std.specs.Prelude.{ℕ, List, length, filter, fold}
use Rattle.group_search.specs.Home.{Home, is_home}
use Rattle.delta_codec.specs.declared.message.FibMessage.{FibMessage}
use Rattle.partial_fib.specs.Fib.{FibState, group_of_message, with_turn}

-- the FIB after these turns, in their order
abbrev pub after_turns : FibState → List FibMessage → FibState
after_turns fib turns = fold with_turn fib turns

-- how many of these turns are of the group
abbrev pub turn_count : Home → List FibMessage → ℕ
turn_count at turns = length (filter (λ (turn : FibMessage). is_home (group_of_message turn) at) turns)
