-- The rule of one meter: what its words have to do with what its seats know.
use Rattle.std.specs.Prelude.{◌≡◌, ℕ, ◌+◌, ◌<◌, ◌≤◌, All, List, [], length, slice_index, sum_by}
use mathlib.Core.Option.{some}
use lib.ListN.{get_elem?}
use Rattle.atomic_table.specs.Table.{State}
use Rattle.usage_meter.specs.declared.view.Opening.{Opening}
use Rattle.usage_meter.specs.declared.view.Add.{Add}
use Rattle.usage_meter.specs.declared.view.Reading.{Reading}
use Rattle.usage_meter.specs.declared.view.View.{View}
use Rattle.usage_meter.specs.declared.view.View.TheVariants.{Live, Spent}
use Rattle.usage_meter.specs.Adds.{octets, usage}

-- what a seat added, and what it may still add; a spent seat has neither
abbrev pub adds_in : View → List Add
adds_in (Live a) = a.adds
adds_in Spent = []

abbrev pub ration_in : View → ℕ
ration_in (Live a) = a.ration
ration_in Spent = 0

-- the octets that a seat added to a node
abbrev pub usage_in : (node : ℕ) → View → ℕ
usage_in node v = usage node (adds_in v)

-- the octets that a seat was given: those that it may still add, and those that it added
abbrev pub given_in : View → ℕ
given_in v = ration_in v + octets (adds_in v)

-- a total is at least what was read of it
abbrev pub IsRead : (words : List ℕ) → Reading → Type 0
IsRead words r = r.total ≤ slice_index words r.node

-- a step tells its seat by what the seat knows, and can't look at the opening
abbrev pub Knows : Opening → (words : List ℕ) → View → Type 0
Knows opening words (Live a) = (a.opening ≡ opening.ration) × All (IsRead words) a.readings
Knows opening words Spent = Unit {0}

-- each word is what all seats together added to its node; what they may still add and what they added is what the meter
-- was opened with
pub record Kept {S : Type 0} (opening : Opening) (s : State S View) : Type 0 where
  pub wide : length s.words ≡ opening.nodes
  pub totals : (node : ℕ) → node < opening.nodes → slice_index s.words node ≡ sum_by (usage_in node) s.views
  pub rations : sum_by given_in s.views ≡ opening.ration
  pub knows : (j : ℕ) (v : View) → get_elem? s.views j ≡ some v → Knows opening s.words v
