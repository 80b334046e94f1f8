use Rattle.std.proofs.Common.{◌≡◌, ◌≤◌, ℕ, All}
use Rattle.usage_meter.specs.declared.view.Reading.{Reading}
use Rattle.usage_meter.specs.Seats.{IsSeatOf, adds_of, opening_ration, ration_of, readings_of}
use Rattle.usage_meter.proofs.tests.read_often.Given as goal

-- what is at least each reading is at least the last
abbrev pub invariant-reads : goal.invariant-reads
invariant-reads l = IsSeatOf l.fn.meter l.seat
    × (ration_of l.seat ≡ ration_of l.initial.seat)
    × (adds_of l.seat ≡ adds_of l.initial.seat)
    × (l.before ≤ opening_ration l.fn.meter)
    × (l.falls ≡ 0)
    × ((n : ℕ) → All (λ (r : Reading). r.node ≡ l.fn.node → r.total ≤ n) (readings_of l.seat) → l.before ≤ n)
