use Rattle.cluster_replay.proofs.Opened.{fresh_nodes, opened_cluster, opened_is_fresh}
use Rattle.cluster_replay.proofs.opening.with_parts.Goals as goal

pub invariant_of-result : goal.invariant_of-result
invariant_of-result c =
    rw (c.in_ok-flows.ensures.items, c.in_ok-nodes.ensures)
    (opened_cluster c.args.shape c.args.flows.now c.args.parts.owners.items _ c.requires.owners (fresh_nodes c.args.shape c.args.flows.now c.args.parts.nodes.items c.requires.nodes) c.requires.shape
    c.requires.handled)

pub returns-clause-opened : goal.returns-clause-opened
returns-clause-opened c =
    rw (c.in_ok-flows.ensures.items, c.in_ok-nodes.ensures)
    (opened_is_fresh c.args.shape c.args.flows.now c.args.parts.owners.items _ c.requires.owners (fresh_nodes c.args.shape c.args.flows.now c.args.parts.nodes.items c.requires.nodes))
