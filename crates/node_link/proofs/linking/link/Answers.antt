use Rattle.std.proofs.Common.{ap}
use Rattle.node_link.proofs.Keeps.{begins, parts}
use Rattle.node_link.proofs.linking.link.Goals as goal

pub with_rule-requires : goal.with_rule-requires
with_rule-requires c = begins

pub another-sender-requires-clause-rule : goal.another-sender-requires-clause-rule
another-sender-requires-clause-rule c =
    let knows = c.tell_blocks.ensures.knows in
    parts _ _ (ap (λ log. log.sends) knows) (ap (λ log. log.takes) knows)
