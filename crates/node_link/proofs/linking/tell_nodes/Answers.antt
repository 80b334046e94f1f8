use Rattle.std.proofs.Common.{ap}
use Rattle.node_link.proofs.Keeps.{shaped}
use Rattle.node_link.proofs.linking.tell_nodes.Goals as goal

pub another-requires-clause-rule : goal.another-requires-clause-rule
another-requires-clause-rule c =
    let knows = c.told.invariant.knows in
    shaped _ _ _ (ap (λ log. log.sends) knows) (ap (λ log. log.takes) knows) (ap (λ log. log.sent) knows) (ap (λ log. log.taken) knows)
