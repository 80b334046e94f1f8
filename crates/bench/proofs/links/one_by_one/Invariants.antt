use Rattle.std.specs.Prelude.{◌≡◌}
use Rattle.bench.proofs.links.one_by_one.Given as goal

-- the ends stay at their link
abbrev pub invariant-messages : goal.invariant-messages
invariant-messages g l = (l.sender.size ≡ l.shape) × (l.taker.size ≡ l.shape)
