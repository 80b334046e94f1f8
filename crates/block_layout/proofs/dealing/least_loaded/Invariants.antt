use Rattle.std.proofs.Common.{◌≡◌, ◌-◌, ◌<◌, get_or}
use Rattle.block_layout.specs.Candidate.{candidate}
use Rattle.block_layout.specs.Dealing.{first_least}
use Rattle.block_layout.proofs.dealing.least_loaded.Given as goal

abbrev pub invariant-choices : goal.invariant-choices
invariant-choices l = record {
  below : l.least < l.choice;
  least : l.least ≡ first_least (λ choice. get_or l.loads (candidate l.bucket choice) 0) (l.choice - 1);
}
