-- The table that the flows of a cluster give: an image for each block, or the first block that is past a limit.
use Rattle.std.specs.Prelude.{ℕ, zero, suc, ◌≡◌, ◌==◌, ◌+◌, ◌-◌, ◌<◌, ◌≤◌, not, List, length, map, filter, sum, Option, Some, None, if◌then◌else◌, nat_lt, slice_index_or}
use Rattle.std.specs.List.{range_with_len, slice_get}
use Rattle.block_layout.specs.Dealing.{groups}
use Rattle.block_layout.specs.Limits.{group_count, most_keys}
use Rattle.group_search.specs.Limits.{most_rows}
use Rattle.flow_types.specs.declared.record.Flow.{Flow}
use Rattle.flow_types.specs.Size.{Size, value_bits}
use Rattle.group_search.specs.declared.entry.Entry.{Entry}
use Rattle.group_search.specs.Canon.{is_separable}
use Rattle.group_search.specs.Home.{flows_of, choices, opening}
use Rattle.group_search.specs.Records.{entries, record_of}
use Rattle.group_search.specs.Image.{Image}

-- how many rows these entries of a group need: none where indexes serve them, and else one each
unfoldable pub rows_needed : (bits : ℕ) → List Entry → ℕ
rows_needed bits entries = if is_separable bits entries then 0 else length entries

-- how many rows the flows of one group of a block need
abbrev pub rows_needed_in : Size → List Flow → (block group : ℕ) → ℕ
rows_needed_in size flows block group =
    rows_needed (value_bits size.nodes) (entries (opening size.blocks flows (record { block = block; group = group })))

-- how many rows the flows of a block need, all its groups together
unfoldable pub needed : Size → List Flow → (block : ℕ) → ℕ
needed size flows block = sum (map (rows_needed_in size flows block) groups)

-- how many of a block's rows its groups other than this one leave, where each group takes as many as `taken` says
unfoldable pub rows_left : (taken : ℕ → ℕ) → (group : ℕ) → ℕ
rows_left taken group = most_rows - sum (map taken (filter (λ (other : ℕ). not (other == group)) (range_with_len 0 group_count)))

-- the block that is past a limit: it has too many flows, or else they need too many rows
pub data PastLimit : Type 0 where
  TooManyFlows : (block : ℕ) → PastLimit
  TooManyRows : (block needed : ℕ) → PastLimit

-- what is past its limit in the block
unfoldable pub past_limit_at : Size → List Flow → (block : ℕ) → Option PastLimit
past_limit_at size flows block =
    if nat_lt most_keys (length (flows_of size.blocks block flows)) then Some (TooManyFlows block)
    else (if nat_lt most_rows (needed size flows block) then Some (TooManyRows block (needed size flows block)) else None)

abbrev pub or_later : Option PastLimit → Option PastLimit → Option PastLimit
or_later (Some here) later = Some here
or_later None later = later

-- the first of a number of blocks, from `block` on, that is past a limit
unfoldable pub first_past_limit : (count block : ℕ) → Size → List Flow → Option PastLimit
first_past_limit zero block size flows = None
first_past_limit (suc count) block size flows = or_later (past_limit_at size flows block) (first_past_limit count (block + 1) size flows)

-- the first block that is past a limit; `None` where the flows can be built
unfoldable pub past_limit : Size → List Flow → Option PastLimit
past_limit size flows = first_past_limit size.blocks 0 size flows

-- the image has the choices that the flows give the block, and the canonical record of each of its groups
pub record IsImage (size : Size) (flows : List Flow) (block : ℕ) (image : Image) : Type 0 where
  pub choices : image.choices ≡ choices size.blocks block flows
  pub one_each : length image.records ≡ group_count
  pub records : (group : ℕ) → group < group_count → slice_get image.records group ≡ record_of size flows (record { block = block; group = group })

-- the flows can be built, and these are the images of all blocks, in their order
pub record IsBuild (size : Size) (flows : List Flow) (images : List Image) : Type 0 where
  pub within : past_limit size flows ≡ None
  pub one_each : length images ≡ size.blocks
  pub each : (block : ℕ) (d : Image) → block < size.blocks → IsImage size flows block (slice_index_or images block d)

-- the block is past no limit
pub record IsWithin (size : Size) (flows : List Flow) (block : ℕ) : Type 0 where
  pub few : length (flows_of size.blocks block flows) ≤ most_keys
  pub few_rows : needed size flows block ≤ most_rows

-- the block has too many flows
pub record HasTooManyFlows (size : Size) (flows : List Flow) (block : ℕ) : Type 0 where
  pub many : most_keys < length (flows_of size.blocks block flows)

-- the block's flows are few enough, and they need this number of rows, which is too many
pub record NeedsTooManyRows (size : Size) (flows : List Flow) (block rows : ℕ) : Type 0 where
  pub few : length (flows_of size.blocks block flows) ≤ most_keys
  pub rows_are : rows ≡ needed size flows block
  pub many : most_rows < rows

abbrev pub block_of : PastLimit → ℕ
block_of (TooManyFlows block) = block
block_of (TooManyRows block rows) = block

abbrev pub IsPastLimit : Size → List Flow → PastLimit → Type 0
IsPastLimit size flows (TooManyFlows block) = HasTooManyFlows size flows block
IsPastLimit size flows (TooManyRows block rows) = NeedsTooManyRows size flows block rows

-- the block is past this limit, and no lesser block is past any
pub record IsFirstPast (size : Size) (flows : List Flow) (past : PastLimit) : Type 0 where
  pub in_range : block_of past < size.blocks
  pub here : IsPastLimit size flows past
  pub before : (block : ℕ) → block < block_of past → IsWithin size flows block

-- all blocks are within their limits, or this is the first that isn't
abbrev pub TellsTheFirst : Size → List Flow → Option PastLimit → Type 0
TellsTheFirst size flows None = (block : ℕ) → block < size.blocks → IsWithin size flows block
TellsTheFirst size flows (Some past) = IsFirstPast size flows past

-- `past_limit` tells the first block that is past a limit
abbrev pub NamesTheFirst : Type 0
NamesTheFirst = (size : Size) (flows : List Flow) → TellsTheFirst size flows (past_limit size flows)
