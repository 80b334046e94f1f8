-- How many indexes, positions and rows there are. A group has at most as many entries as its block has keys, and a
-- record has a pair for each value bit.
use Rattle.std.specs.Prelude.{ℕ}

-- how many indexes the hash family has; each is below it
abbrev pub index_count : ℕ
index_count = 65536

-- how many positions an array has; each is below it
abbrev pub position_count : ℕ
position_count = 8

-- fallback rows are at least two: one entry is always served
abbrev pub fewest_rows : ℕ
fewest_rows = 2

-- how many fallback rows all groups of a block have together, at most
abbrev pub most_rows : ℕ
most_rows = 64
