use Rattle.std.proofs.Common.{ap}
use Rattle.node_link.proofs.Keeps.{sends}
use Rattle.node_link.proofs.sending.push.Goals as goal

pub push_as-requires-clause-rule : goal.push_as-requires-clause-rule
push_as-requires-clause-rule g c n = sends n _ _ _ c.requires.letter.0 (ap (λ log. log.sends) c.requires.port.knows) c.requires.letter.1
