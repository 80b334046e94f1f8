use Rattle.std.specs.Prelude.{◌≡◌, ◌≤◌}
use Rattle.bench.proofs.links.take_all.Given as goal

-- the end stays at its link
abbrev pub invariant-tries : goal.invariant-tries
invariant-tries g l = (l.end.size ≡ l.shape) × (l.count ≤ 2000000)
