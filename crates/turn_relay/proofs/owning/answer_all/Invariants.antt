use Rattle.std.proofs.Common.{◌≤◌, ◌+◌, drop, length}
use Rattle.turn_relay.proofs.OwnerRuns.{OwnerSoFar}
use Rattle.turn_relay.proofs.owning.answer_all.Given as goal

-- the owner's answers so far, and no more updates than events
abbrev pub invariant-events : goal.invariant-events
invariant-events g l =
    OwnerSoFar l.flows l.events l.fn.owner l.owner (drop l.event-index l.events) × (l.update ≤ l.first_update + l.event-index)
    × (l.event-index ≤ length l.events)
