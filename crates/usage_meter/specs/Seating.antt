-- What the contracts of the steps say of a seat, from its view.
use Rattle.std.specs.Prelude.{◌≡◌, ℕ, []}
use Rattle.atomic_table.specs.declared.shared.Seat.{Seat}
use Rattle.usage_meter.specs.declared.view.Account.{Account}
use Rattle.usage_meter.specs.declared.view.View.{View}
use Rattle.usage_meter.specs.declared.view.View.TheVariants.{Live}
use Rattle.usage_meter.specs.Plays.{IsLive, account}

abbrev pub TableSeat : Type 0
TableSeat = Seat ℕ View

-- a meter's seat between two calls
pub record IsMeterSeat (s : TableSeat) : Type 0 where
  pub live : IsLive s.me.0
  pub bare : s.me.1 ≡ []

abbrev pub account_of : TableSeat → Account
account_of s = account s.me.0

-- the seat t is s with this account
pub record Becomes (s t : TableSeat) (a : Account) : Type 0 where
  pub same : t.table_id ≡ s.table_id
  pub me : t.me ≡ (Live a, s.me.1)
