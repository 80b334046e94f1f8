use Rattle.std.proofs.Common.{rules}
use Rattle.std.proofs.lemmas.List.Sorted.{answers_always}
use Rattle.setsep_build.specs.Placing.{rank}
use Rattle.setsep_build.proofs.InOrder.{sorted_in_order}
use Rattle.setsep_build.proofs.placing.in_order.Goals as goal

pub returns-clause-in_order : goal.returns-clause-in_order
returns-clause-in_order g c = sorted_in_order c.par_sort_unstable_by_key.new.s (c.par_sort_unstable_by_key.ensures.sorted rank (answers_always _ _ _ (λ f a r f' k. search rules)))
