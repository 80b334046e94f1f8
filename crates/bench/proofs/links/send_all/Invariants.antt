use Rattle.std.specs.Prelude.{◌≡◌}
use Rattle.bench.proofs.links.send_all.Given as goal

-- the end stays at its link
abbrev pub invariant-messages : goal.invariant-messages
invariant-messages g l = l.end.size ≡ l.shape
