use Rattle.std.proofs.Common.{arith}
use Rattle.scalebricks.proofs.Runs.{ReadsCount-same, never_too_large}
use Rattle.scalebricks.proofs.running.run.Goals as goal

pub returns-in-Ok-None-clause-too_large : goal.returns-in-Ok-None-clause-too_large
returns-in-Ok-None-clause-too_large g c = ReadsCount-same _ _ _ (omega arith) (λ is. omega (arith, is))

pub returns-in-Err-clause-too_large : goal.returns-in-Err-clause-too_large
returns-in-Err-clause-too_large g c = ReadsCount-same _ _ _ (omega arith) (λ is. omega (arith, is))

pub returns-in-Grind-clause-too_large : goal.returns-in-Grind-clause-too_large
returns-in-Grind-clause-too_large g c = ReadsCount-same _ _ _ (omega arith) (λ is. never_too_large _ _ c.grind_seed.ensures.exact is)
