use Rattle.block_layout.proofs.choices.Choices.none.Goals as goal
use Rattle.block_layout.proofs.ChoicesLemmas.{zeros_are_octets, zeros_are_none}

pub invariant_of-result : goal.invariant_of-result
invariant_of-result c = zeros_are_octets

pub returns : goal.returns
returns c = zeros_are_none
