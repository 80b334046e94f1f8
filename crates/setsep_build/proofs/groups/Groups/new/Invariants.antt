use Rattle.std.proofs.Common.{◌≡◌, [], replicate}
use Rattle.setsep_build.proofs.groups.Groups.new.Given as goal

abbrev pub invariant-groups : goal.invariant-groups
invariant-groups l = l.groups.items ≡ replicate l.counter []
