use Rattle.std.proofs.Common.{arith}
use Rattle.std.proofs.lemmas.Grind.{common_steps}
use Rattle.group_search.specs.Decoding.{decode}
use Rattle.group_search.proofs.record.GroupRecord.decode.Goals as goal

pub returns-in-Served : goal.returns-in-Served
unfolding decode
returns-in-Served c = grind (arith, common_steps)

pub returns-in-Fallback : goal.returns-in-Fallback
unfolding decode
returns-in-Fallback c = grind (arith, common_steps)
