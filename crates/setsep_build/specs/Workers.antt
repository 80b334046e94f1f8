-- How many workers a build may have, and how many it takes.
use Rattle.std.specs.Prelude.{ℕ, ◌+◌, ◌*◌, ◌/◌, max, min}
use Rattle.block_layout.specs.Limits.{group_count}

-- a build has at most 64 workers
abbrev pub most_workers : ℕ
most_workers = 64

-- it pays to start a worker for this number of flows and groups
abbrev pub worth_a_worker : ℕ
worth_a_worker = 1024

-- a run of blocks for each worker that pays, at most one for each worker and for each block, and at least one
abbrev pub worthy_runs : (flows blocks workers : ℕ) → ℕ
worthy_runs flows blocks workers = min blocks (min workers (max 1 ((flows + blocks * group_count) / worth_a_worker)))
