-- Lists that go on.
use Rattle.flow_types.proofs.Prefixes.{prefix_self, prefix_trans}

pub ruleset lists_go_on = (prefix_self, prefix_trans)
