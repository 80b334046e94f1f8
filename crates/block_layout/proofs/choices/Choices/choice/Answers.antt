use Rattle.std.proofs.Common.{sym, arith}
use Rattle.block_layout.specs.Packing.{choice_is}
use Rattle.block_layout.proofs.choices.Choices.choice.Goals as goal

pub returns-clause-value : goal.returns-clause-value
returns-clause-value c = rw (← c.self.view_is) (sym (choice_is c.self.inside.bytes c.args.bucket (omega arith)))
