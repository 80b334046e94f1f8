-- What a contract sees of a meter and its seats.
use Rattle.std.specs.Prelude.{◌≡◌, ℕ, ◌+◌, List}
use Rattle.usage_meter.specs.declared.meter.Meter.{Meter}
use Rattle.usage_meter.specs.declared.seat.MeterSeat.{MeterSeat}
use Rattle.usage_meter.specs.declared.view.Add.{Add}
use Rattle.usage_meter.specs.declared.view.Reading.{Reading}
use Rattle.usage_meter.specs.Adds.{octets}
use Rattle.usage_meter.specs.Seating.{account_of}

abbrev pub nodes_of : Meter → ℕ
nodes_of meter = meter.words.shared.key.nodes

-- the octets that all seats together may add
abbrev pub opening_ration : Meter → ℕ
opening_ration meter = meter.words.shared.key.ration

-- the octets that a seat may still add
abbrev pub ration_of : MeterSeat → ℕ
ration_of seat = (account_of seat.inner).ration

-- all adds of a seat, and of the seats that were gathered into it
abbrev pub adds_of : MeterSeat → List Add
adds_of seat = (account_of seat.inner).adds

-- the totals that a seat has read, in order
abbrev pub readings_of : MeterSeat → List Reading
readings_of seat = (account_of seat.inner).readings

-- the seat is the meter's
pub record IsSeatOf (meter : Meter) (seat : MeterSeat) : Type 0 where
  pub one_table : seat.inner.table_id ≡ meter.words.shared.table_id
  pub one_opening : (account_of seat.inner).opening ≡ opening_ration meter

-- no other seat has added, or may still add, anything
abbrev pub IsWhole : Meter → MeterSeat → Type 0
IsWhole meter seat = ration_of seat + octets (adds_of seat) ≡ opening_ration meter
