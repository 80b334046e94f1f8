use Rattle.std.proofs.Common.{arith}
use Rattle.block_layout.proofs.ChoicesLemmas.{replaced_fits, is_replaced}
use Rattle.block_layout.proofs.choices.with_choice.Goals as goal

pub overflow_add-result : goal.overflow_add-result
overflow_add-result c = omega (arith, replaced_fits c.args.octet c.args.place c.args.choice (omega arith) c.requires.place c.requires.choice)

pub returns : goal.returns
returns c = is_replaced c.args.octet c.args.place c.args.choice (omega arith) c.requires.place c.requires.choice
