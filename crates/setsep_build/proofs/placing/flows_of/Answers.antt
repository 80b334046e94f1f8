use Rattle.std.proofs.Common.{◌∙◌, sym}
use Rattle.setsep_build.proofs.OfRun.{none_placed, one_placed}
use Rattle.setsep_build.proofs.placing.flows_of.Goals as goal

pub flows-init : goal.flows-init
flows-init c = c.new-all.ensures.items ∙ sym (none_placed c.args.shape.blocks c.args.run)

pub flows-preserved : goal.flows-preserved
flows-preserved c =
    c.in_ok-keep.ensures
    ∙ one_placed c.args.shape.blocks c.args.run c.args.flows.now c.args.places.now c.flows.at _ _ c.flows.all.items c.requires c.flows-test.true c.flows.invariant
