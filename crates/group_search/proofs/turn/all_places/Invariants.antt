use Rattle.std.proofs.Common.{drop}
use Rattle.group_search.proofs.LaneMasks.{AreSoFar}
use Rattle.group_search.proofs.turn.all_places.Given as goal

abbrev pub invariant-lines : goal.invariant-lines
invariant-lines l = AreSoFar l.places l.first (drop l.line-index l.lines) l.lines
