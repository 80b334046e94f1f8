-- The rows of an input one by one: when they can be run, and which of them is the first bad one.
use Rattle.std.specs.Prelude.{◌≡◌, ◌⊎◌, ◌↔◌, ℕ, List, drop, Some, None, Ok, Err}
use Rattle.flow_types.specs.declared.why.BadRow.{BadRow}
use Rattle.csv_rows.specs.Rows.{Row, rows}
use Rattle.flow_reader.specs.FirstBad.{IsFirstBad, IsOpening}
use Rattle.flow_reader.specs.declared.opening.Opening.{Opening}
use Rattle.group_search.specs.Build.{PastLimit, past_limit}
use Rattle.group_search.specs.Build.PastLimit.{TooManyFlows, TooManyRows}
use Rattle.packet_reader.specs.declared.event.Event.{Event}
use Rattle.packet_reader.specs.declared.mode.Mode.{Mode}
use Rattle.packet_reader.specs.Events.{events_in}
use Rattle.packet_reader.specs.FirstBad.{IsFirstBadAfter, IsScript}
use Rattle.cluster_open.specs.declared.fault.InputFault.TheVariants.{Bad, BlockFull, RowsFull}
use Rattle.cluster_open.specs.Input.{Input, input_in}

-- the first bad row of all rows: one up to `begin`, or one after it
abbrev pub IsFirstBadRow : Mode → List Row → BadRow → Type 0
IsFirstBadRow mode all bad =
    IsFirstBad all bad
    ⊎ ((opening : Opening) × IsOpening all opening × IsFirstBadAfter (events_in mode opening.shape) opening.begin_row (drop opening.begin_row all) bad)

-- no row is bad, and the rows say this opening and this script
pub record AreReadable (mode : Mode) (all : List Row) (opening : Opening) (script : List Event) : Type 0 where
  pub opens : IsOpening all opening
  pub goes_on : IsScript (events_in mode opening.shape) (drop opening.begin_row all) script

-- so it is, and no block is past a limit
pub record CanRun (mode : Mode) (all : List Row) (input : Input) : Type 0 where
  pub readable : AreReadable mode all input.opening input.script
  pub within : past_limit input.opening.shape input.opening.flows ≡ None

-- no row is bad, and the first block that is past a limit is past this one
pub record IsPast (mode : Mode) (all : List Row) (past : PastLimit) : Type 0 where
  pub opening : Opening
  pub script : List Event
  pub readable : AreReadable mode all opening script
  pub first : past_limit opening.shape opening.flows ≡ Some past

-- an input says an opening and a script exactly where its rows do and can be run, its fault is a bad row exactly where that is
-- its first, and a block exactly where no row is bad and that is its first block past a limit
pub record InputLaw (mode : Mode) (octets : List ℕ) : Type 0 where
  pub said : (input : Input) → (input_in mode octets ≡ Ok input) ↔ CanRun mode (rows octets) input
  pub refused : (bad : BadRow) → (input_in mode octets ≡ Err (Bad bad)) ↔ IsFirstBadRow mode (rows octets) bad
  pub block_full : (block : ℕ) → (input_in mode octets ≡ Err (BlockFull block)) ↔ IsPast mode (rows octets) (TooManyFlows block)
  pub rows_full : (block : ℕ) → (input_in mode octets ≡ Err (RowsFull block)) ↔ ((needed : ℕ) × IsPast mode (rows octets) (TooManyRows block needed))
