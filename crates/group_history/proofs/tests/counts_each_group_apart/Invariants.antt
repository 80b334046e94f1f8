use Rattle.std.proofs.Common.{◌≤◌, length}
use Rattle.group_history.proofs.tests.counts_each_group_apart.Given as goal

abbrev pub invariant-additions : goal.invariant-additions
invariant-additions g l = length l.journal.changes ≤ l.group-index
