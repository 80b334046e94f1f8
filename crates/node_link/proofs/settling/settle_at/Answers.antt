use Rattle.std.proofs.Common.{ap, ◌∙◌}
use Rattle.node_link.proofs.Keeps.{joined, parts}
use Rattle.node_link.proofs.settling.settle_at.Goals as goal

pub absorb-requires-clause-rule : goal.absorb-requires-clause-rule
absorb-requires-clause-rule g c = joined _ _ _ _ (ap (λ log. log.takes) c.requires.taker.knows) (ap (λ log. log.sends) c.requires.sender.knows)

pub another-sender-requires-clause-rule : goal.another-sender-requires-clause-rule
another-sender-requires-clause-rule g c =
    let held = c.pop-letter.ensures.port.knows in
    let joins = c.absorb.ensures.rule in
    parts _ _ (ap (λ log. log.sends) held ∙ ap (λ log. log.sends) joins) (ap (λ log. log.takes) held ∙ ap (λ log. log.takes) joins)
