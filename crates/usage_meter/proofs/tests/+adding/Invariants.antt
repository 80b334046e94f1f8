use Rattle.std.proofs.Common.{◌+◌, ◌*◌}
use Rattle.usage_meter.proofs.tests.+adding.Given as goal

abbrev pub decreases-add_by_threads : goal.decreases-add_by_threads
decreases-add_by_threads g l = 2 * l.threads

abbrev pub decreases-join+arg2 : goal.decreases-join+arg2
decreases-join+arg2 g l = l.threads + 1

abbrev pub decreases-join+arg3 : goal.decreases-join+arg3
decreases-join+arg3 g l = l.threads + 1
