-- How many octets messages have at most.
use Rattle.std.specs.Prelude.{ℕ}

-- the longest message: a table message with as many rows as a record may have
abbrev pub longest_message : ℕ
longest_message = 905

-- the longest message without rows: a FIB message that puts a record
abbrev pub longest_short_message : ℕ
longest_short_message = 29
