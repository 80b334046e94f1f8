use Rattle.std.proofs.Common.{ap}
use Rattle.node_link.proofs.Keeps.{all_is_taken, takes}
use Rattle.node_link.proofs.receiving.pop.Goals as goal

pub pop_as-requires-clause-rule : goal.pop_as-requires-clause-rule
pop_as-requires-clause-rule g c = (takes _ _ (ap (λ log. log.takes) c.requires.port.knows), all_is_taken _ _)
