use Rattle.std.proofs.Common.{arith, ap, ◌≡◌, ◌-◌, ◌∙◌, get_or}
use Rattle.block_layout.specs.Candidate.{candidate}
use Rattle.block_layout.specs.Dealing.{first_least, least_loaded}
use Rattle.block_layout.proofs.dealing.least_loaded.Goals as goal

pub returns-clause-value : goal.returns-clause-value
unfolding least_loaded
returns-clause-value c =
    let all : c.choices.choice - 1 ≡ 3 = omega arith in
    c.choices.invariant.least ∙ ap (first_least (λ choice. get_or c.args.loads.now (candidate c.args.bucket choice) 0)) all
