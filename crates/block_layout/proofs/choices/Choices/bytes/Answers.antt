use Rattle.std.proofs.Common.{sym}
use Rattle.block_layout.specs.Packing.{octets_back}
use Rattle.block_layout.proofs.choices.Choices.bytes.Goals as goal

pub returns : goal.returns
returns c = rw (← c.self.view_is) (sym (octets_back c.self.inside.bytes c.self.invariant))
