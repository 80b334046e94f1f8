-- So far there are no more queues than there shall be, and they say what there was.
use Rattle.std.proofs.Common.{◌≡◌, ℕ, length}
use Rattle.storm_model.specs.Merging.{queues_of}
use Rattle.cluster_storm.proofs.taking.pad.Given as goal

abbrev pub invariant-empty : goal.invariant-empty
invariant-empty l = (length l.queues.items ≡ l.counter) × ((number : ℕ) → queues_of l.queues.items number ≡ queues_of l.fn.queues.items number)
