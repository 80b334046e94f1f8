use Rattle.std.specs.Prelude.{◌≡◌}
use Rattle.node_link.proofs.tests.send_many.Given as goal

-- the end stays at its link
abbrev pub invariant-turns : goal.invariant-turns
invariant-turns g l = (l.end.line ≡ l.initial.end.line) × (l.end.size ≡ l.shape)
