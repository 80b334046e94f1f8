use Rattle.group_search.proofs.Values.{value_more, value_whole}
use Rattle.group_search.proofs.record.value_at.Goals as goal

pub pairs-preserved : goal.pairs-preserved
pairs-preserved c = value_more _ _ _ _ _ c.pairs-test.true c.requires c.position.ensures.value c.pairs.invariant

pub returns : goal.returns
returns c = value_whole _ _ _ _ c.pairs-test.false c.pairs.invariant
