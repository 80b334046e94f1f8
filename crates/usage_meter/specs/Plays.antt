-- What each step on a meter tells its seat.
use Rattle.std.specs.Prelude.{◌≡◌, ℕ, ◌+◌, ◌-◌, ◌≤◌, [], ◌∷◌, ◌++◌, All}
use Rattle.atomic_table.specs.Table.{Me, Step}
use Rattle.usage_meter.specs.declared.view.Opening.{Opening}
use Rattle.usage_meter.specs.declared.view.Reading.{Reading}
use Rattle.usage_meter.specs.declared.view.Account.{Account}
use Rattle.usage_meter.specs.declared.view.View.{View}
use Rattle.usage_meter.specs.declared.view.View.TheVariants.{Live, Spent}
use Rattle.usage_meter.specs.Adds.{an_add, octets, usage}

abbrev pub reading : (node total : ℕ) → Reading
reading node total = record { node = node; total = total }

-- a seat that has added and read nothing
abbrev pub new_account : (opening ration : ℕ) → Account
new_account opening ration = record { opening = opening; ration = ration; adds = []; readings = [] }

abbrev pub first_view : Opening → View
first_view opening = Live (new_account opening.ration opening.ration)

-- the account of a seat that isn't spent
abbrev pub account : View → Account
account (Live a) = a
account Spent = new_account 0 0

abbrev pub IsLive : View → Type 0
IsLive v = v ≡ Live (account v)

abbrev pub added : (node octets : ℕ) → Account → Account
added node octets a = record a { ration = a.ration - octets; adds = a.adds ++ an_add node octets ∷ [] }

abbrev pub loaded : (node total : ℕ) → Account → Account
loaded node total a = record a { readings = a.readings ++ reading node total ∷ [] }

-- a seat is split: the new one gets a part of its ration, and none of its adds
abbrev pub kept_by : (part : ℕ) → View → View
kept_by part (Live a) = Live (record a { ration = a.ration - part })
kept_by part Spent = Spent

abbrev pub given_by : (part : ℕ) → View → View
given_by part (Live a) = Live (new_account a.opening part)
given_by part Spent = Spent

-- a seat is joined into another, whose readings stay as they are
abbrev pub has_gathered : Account → Account → Account
has_gathered b a = record a { ration = a.ration + b.ration; adds = a.adds ++ b.adds }

abbrev pub gathered : View → View → View
gathered (Live a) (Live b) = Live (has_gathered b a)
gathered a b = a

-- what a seat learns of a node's total when it loads it
pub record Learns (a : Account) (node total : ℕ) : Type 0 where
  -- all that the seat added is in it
  pub least : usage node a.adds ≤ total
  -- what is in it besides was added by other seats, out of what they were given
  pub others : total + (a.ration + octets a.adds) ≤ a.opening + usage node a.adds
  -- it never falls
  pub rises : All (λ (r : Reading). r.node ≡ node → r.total ≤ total) a.readings

module _ {S : Type 0} where
  -- the step's number is what is added
  abbrev pub Adds : Step S → Me S View → ℕ → Me S View → Type 0
  Adds st m n m' = m' ≡ (Live (added st.word st.first (account m.0)), m.1)

  abbrev pub Loads : Step S → Me S View → ℕ → Me S View → Type 0
  Loads st m n m' = (m' ≡ (Live (loaded st.word n (account m.0)), m.1)) × Learns (account m.0) st.word n
