use Rattle.std.proofs.Common.{◌≡◌, ◌-◌}
use Rattle.group_search.specs.Serving.{first_serving, least_of}
use Rattle.group_search.specs.declared.limits.TheConstants.{INDEXES}
use Rattle.group_search.proofs.plain.least_plain.Given as goal

abbrev pub invariant-indexes : goal.invariant-indexes
invariant-indexes l = first_serving (INDEXES - l.next) l.next l.bit l.entries ≡ least_of l.bit l.entries
