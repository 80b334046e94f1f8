use Rattle.group_search.proofs.Chosen.{AreChosen}
use Rattle.group_search.proofs.choosing.serving_pairs.Given as goal

abbrev pub invariant-bits : goal.invariant-bits
invariant-bits l = AreChosen l.entries l.bits l.bit l.pairs
