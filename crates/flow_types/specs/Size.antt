-- How many nodes and blocks a cluster has.
use Rattle.std.specs.Prelude.{ℕ, ◌^◌, ◌<◌, ◌≤◌, nat_le, if◌then◌else◌, min}

-- what a contract sees of a shape
pub record Size : Type 0 where
  pub nodes : ℕ
  pub blocks : ℕ

-- a cluster has at least two nodes
abbrev pub fewest_nodes : ℕ
fewest_nodes = 2

-- a cluster has at most sixteen nodes
abbrev pub most_nodes : ℕ
most_nodes = 16

-- a table has at least one block
abbrev pub fewest_blocks : ℕ
fewest_blocks = 1

-- a table has at most 256 blocks
abbrev pub most_blocks : ℕ
most_blocks = 256

-- four bits tell sixteen nodes apart
abbrev pub most_value_bits : ℕ
most_value_bits = 4

-- a cluster of these numbers of nodes and blocks can be
pub record IsShape (nodes blocks : ℕ) : Type 0 where
  pub enough_nodes : fewest_nodes ≤ nodes
  pub few_nodes : nodes ≤ most_nodes
  pub enough_blocks : fewest_blocks ≤ blocks
  pub few_blocks : blocks ≤ most_blocks

-- how many nodes own blocks: the blocks are dealt to the nodes in turn, so these are the nodes of the least numbers
abbrev pub owners_in : Size → ℕ
owners_in size = min size.nodes size.blocks

-- how many value bits tell this number of nodes apart
abbrev pub value_bits : ℕ → ℕ
value_bits nodes = if nat_le nodes 2 then 1 else (if nat_le nodes 4 then 2 else (if nat_le nodes 8 then 3 else 4))

-- this number of bits tells the nodes apart, and no lesser one from one on does
pub record AreValueBits (nodes bits : ℕ) : Type 0 where
  pub at_least_one : 1 ≤ bits
  pub enough : nodes ≤ 2 ^ bits
  pub no_fewer : (fewer : ℕ) → 1 ≤ fewer → fewer < bits → 2 ^ fewer < nodes
