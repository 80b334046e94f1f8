use Rattle.group_search.proofs.Numbered.{AreNumbered}
use Rattle.group_search.proofs.tests.group.Given as goal

abbrev pub invariant-keys : goal.invariant-keys
invariant-keys l = AreNumbered l.source l.made l.entries.items
