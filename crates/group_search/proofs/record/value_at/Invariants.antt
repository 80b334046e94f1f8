use Rattle.group_search.proofs.Values.{IsValueSoFar}
use Rattle.group_search.proofs.record.value_at.Given as goal

abbrev pub invariant-pairs : goal.invariant-pairs
invariant-pairs l = IsValueSoFar l.hashes l.pairs l.bit l.value
