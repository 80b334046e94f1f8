use Rattle.std.proofs.Common.{◌≡◌, ◌-◌, ◌*◌}
use Rattle.group_search.specs.Lanes.{first_between}
use Rattle.group_search.proofs.search.first_of_all.Given as goal

abbrev pub invariant-turns : goal.invariant-turns
invariant-turns l = first_between (65536 - l.turn * 16) (l.turn * 16) l.ones l.zeros ≡ first_between 65536 0 l.ones l.zeros
