use Rattle.std.proofs.Common.{◌∙◌}
use Rattle.rib_owner.proofs.Settled.{same_parts}
use Rattle.rib_owner.proofs.opening.settle.Goals as goal

pub returns-in_err-settle : goal.returns-in_err-settle
returns-in_err-settle c = same_parts c.settled.blocks c.settled.index c.index-blocks-index.result c.settle.new.self c.settle.ensures ∙ c.settled.invariant

pub settled-preserved : goal.settled-preserved
settled-preserved c = same_parts c.settled.blocks c.settled.index c.index-blocks-index.result c.settle.new.self c.settle.ensures ∙ c.settled.invariant
