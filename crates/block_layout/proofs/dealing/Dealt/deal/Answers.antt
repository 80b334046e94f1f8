use Rattle.std.proofs.Common.{refl}
use Rattle.block_layout.specs.Dealing.{deal}
use Rattle.block_layout.proofs.dealing.Dealt.deal.Goals as goal

pub returns-clause-dealt : goal.returns-clause-dealt
unfolding deal
returns-clause-dealt c =
    rw (c.candidate-group.ensures.value, c.from.ensures, c.set.ensures, c.least_loaded-choice.ensures.value) refl
