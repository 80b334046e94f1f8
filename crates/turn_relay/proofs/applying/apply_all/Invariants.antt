use Rattle.turn_relay.specs.Each.{Each}
use Rattle.turn_relay.specs.Follow.{ApplierDid}
use Rattle.turn_relay.proofs.applying.apply_all.Given as goal

abbrev pub invariant-looks : goal.invariant-looks
invariant-looks g l = (goal.iterator-looks g).can_next l.iterator' × (goal.iterator-looks g).is_finite l.iterator' × Each (ApplierDid l.working) l.fn.appliers l.appliers
