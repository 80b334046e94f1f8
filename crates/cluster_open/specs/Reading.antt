-- An input that was read.
use Rattle.std.specs.Prelude.{◌<◌, ◌^◌, ℕ, List, length}
use Rattle.csv_rows.specs.Rows.{rows}
use Rattle.flow_reader.specs.declared.opening.Opening.{Opening}
use Rattle.packet_reader.specs.declared.event.Event.{Event}
use Rattle.packet_reader.specs.declared.mode.Mode.{Mode}
use Rattle.cluster_open.specs.FirstBad.{AreReadable}

-- no row of the octets is bad, the rows say this opening and this script, and 32 bits count them
pub record IsReadFrom (mode : Mode) (octets : List ℕ) (opening : Opening) (script : List Event) : Type 0 where
  pub readable : AreReadable mode (rows octets) opening script
  pub few : length (rows octets) < 2 ^ 32
