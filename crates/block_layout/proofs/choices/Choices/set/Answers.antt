use Rattle.std.proofs.Common.{arith}
use Rattle.block_layout.proofs.ChoicesLemmas.{set_choice}
use Rattle.block_layout.proofs.choices.Choices.set.Goals as goal

pub returns : goal.returns
returns c =
    rw (← c.self.view_is)
    (set_choice c.self.inside.bytes c.args.bucket c.with_choice.result c.args.choice c.self.invariant (omega arith) c.with_choice.ensures)
