use Rattle.std.proofs.Common.{◌≡◌, ◌+◌, ◌≤◌, vec_len}
use Rattle.turn_relay.proofs.applier.close_parts.Given as goal

abbrev pub invariant-parts : goal.invariant-parts
invariant-parts g l = (vec_len l.parts + l.counter ≡ l.count) × (l.counter ≤ l.count)
