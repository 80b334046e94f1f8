use Rattle.std.proofs.Common.{◌≡◌}
use Rattle.turn_relay.specs.Follow.{GoesOn}
use Rattle.turn_relay.proofs.finishing.settle_link.Given as goal

abbrev pub invariant-left : goal.invariant-left
invariant-left g l = (goal.iterator-left g).can_next l.iterator' × (goal.iterator-left g).is_finite l.iterator' × (l.sender ≡ l.fn.sender) × GoesOn l.fn.part l.part
