use Rattle.std.proofs.Common.{◌≡◌, ◌<◌, [], get_or, ℕ}
use Rattle.setsep_build.proofs.groups.Groups.clear.Given as goal

abbrev pub invariant-groups : goal.invariant-groups
invariant-groups l = (k : ℕ) → k < l.group-index → get_or l.group-items k [] ≡ []
