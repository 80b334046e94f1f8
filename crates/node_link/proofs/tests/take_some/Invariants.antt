use Rattle.std.specs.Prelude.{◌≡◌, ◌≤◌}
use Rattle.node_link.proofs.tests.take_some.Given as goal

-- the end stays at its link
abbrev pub invariant-tries : goal.invariant-tries
invariant-tries g l = (l.end.line ≡ l.initial.end.line) × (l.end.size ≡ l.shape)
