-- A table for each plan so far.
use Rattle.std.proofs.Common.{◌≡◌, take}
use Rattle.cluster_open.proofs.node.tables.Given as goal

abbrev pub invariant-plans : goal.invariant-plans
invariant-plans l = l.tables.items ≡ take l.plan-index l.plans
