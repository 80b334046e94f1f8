use Rattle.std.proofs.Common.{◌≡◌, ◌+◌, ◌≤◌, vec_len}
use Rattle.turn_relay.proofs.applier.close_all.Given as goal

abbrev pub invariant-appliers : goal.invariant-appliers
invariant-appliers g l = (vec_len l.appliers + l.counter ≡ l.count) × (l.counter ≤ l.count)
