use Rattle.std.proofs.Common.{◌≡◌, take}
use Rattle.setsep_build.specs.Placing.{placed_by}
use Rattle.setsep_build.proofs.placing.flows_of.Given as goal

abbrev pub invariant-flows : goal.invariant-flows
invariant-flows l = l.all.items ≡ placed_by l.fn.shape.blocks l.fn.run (take l.at l.fn.flows)
