use Rattle.std.proofs.Common.{◌≡◌, ◌+◌}
use Rattle.usage_meter.specs.Adds.{octets, usage}
use Rattle.usage_meter.specs.Seats.{IsSeatOf, adds_of, ration_of}
use Rattle.usage_meter.proofs.tests.add_singly.Given as goal

abbrev pub invariant-adds : goal.invariant-adds
invariant-adds l = IsSeatOf l.fn.meter l.seat
    × (ration_of l.seat + l.added ≡ ration_of l.initial.seat)
    × (octets (adds_of l.seat) ≡ octets (adds_of l.initial.seat) + l.added)
    × (usage l.fn.node (adds_of l.seat) ≡ usage l.fn.node (adds_of l.initial.seat) + l.added)
