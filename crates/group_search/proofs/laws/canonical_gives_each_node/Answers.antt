use Rattle.group_search.proofs.EachNode.{gives_each_node}
use Rattle.group_search.proofs.laws.canonical_gives_each_node.Goals as goal

pub returns : goal.returns
returns c = gives_each_node
