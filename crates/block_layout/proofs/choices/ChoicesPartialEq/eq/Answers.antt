use Rattle.std.proofs.Common.{arith}
use Rattle.block_layout.specs.Packing.{octets_back}
use Rattle.block_layout.proofs.choices.ChoicesPartialEq.eq.Goals as goal

pub returns : goal.returns
returns c = grind (arith, octets_back)
