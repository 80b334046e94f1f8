-- Who isn't marked so far, and has no update among the events that are left, has none among all.
use Rattle.std.proofs.Common.{◌≡◌, ◌↔◌, ℕ, drop, false, length}
use Rattle.storm_model.specs.Owners.{HasNoUpdate}
use Rattle.turn_relay.specs.Follow.{works}
use Rattle.cluster_storm.proofs.dealing.working_owners.Given as goal

abbrev pub invariant-events : goal.invariant-events
invariant-events l =
    (length l.working.items ≡ l.fn.shape.nodes)
    × ((owner : ℕ) → ((works l.working.items owner ≡ false) × HasNoUpdate l.fn.shape owner (drop l.event-index l.events)) ↔ HasNoUpdate l.fn.shape owner l.events)
