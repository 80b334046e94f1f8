use Rattle.std.specs.Prelude.{◌≡◌}
use Rattle.node_link.proofs.tests.settle_all.Given as goal

-- the ends stay at their link
abbrev pub invariant-rest : goal.invariant-rest
invariant-rest g l = (l.sender.line ≡ l.taker.line) × (l.sender.size ≡ l.shape) × (l.taker.size ≡ l.shape)
