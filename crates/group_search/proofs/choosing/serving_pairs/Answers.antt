use Rattle.std.proofs.Common.{sym, ◌∙◌}
use Rattle.group_search.proofs.Chosen.{chosen_more, chosen_none, chosen_whole}
use Rattle.group_search.proofs.choosing.serving_pairs.Goals as goal

pub returns-in_err-pairs : goal.returns-in_err-pairs
returns-in_err-pairs c = c.from_residual.ensures ∙ sym (chosen_none _ _ _ _ c.bits.invariant c.bits-test.true (sym c.least.ensures.value ∙ c.in_err-pairs.was))

pub bits-preserved : goal.bits-preserved
bits-preserved c = chosen_more _ _ _ _ c.bits.invariant _ c.bits-test.true c.requires.few_bits (sym c.least.ensures.value ∙ c.in_ok-pairs.was)

pub returns : goal.returns
returns c = sym (chosen_whole _ _ _ _ c.bits.invariant c.bits-test.false c.bits.auto.bit-end)
