-- Which messages fit a shape.
use Rattle.std.specs.Prelude.{ℕ, ◌≡◌, ◌<◌, ◌≤◌, ◌%◌, List, length, All}
use Rattle.block_layout.specs.Limits.{group_count}
use Rattle.flow_types.specs.Size.{Size, value_bits}
use Rattle.group_search.specs.Limits.{fewest_rows, most_rows}
use Rattle.flow_types.specs.Limits.{most_turns}
use Rattle.group_search.specs.declared.record.GroupRecord.{GroupRecord}
use Rattle.group_search.specs.declared.record.GroupRecord.TheVariants.{Served, Fallback}
use Rattle.group_search.specs.declared.rows.Row.{Row}
use Rattle.group_search.specs.Rows.{IsRising}
use Rattle.delta_codec.specs.declared.message.Message.{Message}
use Rattle.delta_codec.specs.declared.message.Message.TheVariants.{Table, Fib}

-- the owner is a node and owns the block, the turn is one that an owner can have, and the group is one of a block's 64
pub record HeadFits (size : Size) (owner turn block group : ℕ) : Type 0 where
  pub owner_is_node : owner < size.nodes
  pub first_turn : 1 ≤ turn
  pub last_turn : turn ≤ most_turns
  pub in_table : block < size.blocks
  pub owned : block % size.nodes ≡ owner
  pub in_block : group < group_count

-- as many rows as a record may have, by strictly rising key, each of one of the cluster's nodes
pub record RowsFit (nodes : ℕ) (rows : List Row) : Type 0 where
  pub enough : fewest_rows ≤ length rows
  pub few : length rows ≤ most_rows
  pub rising : IsRising rows
  pub are_nodes : All (λ (row : Row). row.node < nodes) rows

-- a pair for each value bit of the shape, or rows that fit
abbrev pub ContentFits : Size → GroupRecord → Type 0
ContentFits size (Served pairs) = length pairs ≡ value_bits size.nodes
ContentFits size (Fallback rows) = RowsFit size.nodes rows

-- each field of the message meets its rule
abbrev pub Fits : Size → Message → Type 0
Fits size (Table m) = HeadFits size m.owner m.turn m.block m.group × ContentFits size m.content
Fits size (Fib m) = HeadFits size m.owner m.turn m.block m.group
