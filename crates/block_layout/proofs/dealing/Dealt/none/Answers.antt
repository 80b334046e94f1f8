use Rattle.std.proofs.Common.{replicate, ap}
use Rattle.block_layout.specs.Dealing.{none_dealt}
use Rattle.block_layout.proofs.dealing.Dealt.none.Goals as goal

pub returns : goal.returns
unfolding none_dealt
returns c = ap (λ choices. record { loads = replicate 64 0; choices = choices }) c.none.ensures
