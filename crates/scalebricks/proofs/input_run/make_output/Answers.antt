use Rattle.std.proofs.Common.{refl}
use Rattle.scalebricks.proofs.Outputs.{fault_outputs, run_output, status_of_run}
use Rattle.scalebricks.proofs.input_run.make_output.Goals as goal

pub returns-in-Ok-clause-made : goal.returns-in-Ok-clause-made
returns-in-Ok-clause-made g c = run_output c.args.how.mode c.args.how.lanes c.args.bytes.items _ c.in-Ok.ensures refl

pub returns-in-Ok-clause-status : goal.returns-in-Ok-clause-status
returns-in-Ok-clause-status g c = status_of_run c.args.how.mode c.args.how.lanes c.args.bytes.items c.in-Ok.text.items c.in-Ok.ensures

pub returns-in-Err-clause-made : goal.returns-in-Err-clause-made
returns-in-Err-clause-made g c =
    fault_outputs c.args.how.mode c.args.how.lanes c.args.bytes.items c.in-Err.fault c.refused.result c.in-Err.ensures c.refused.ensures.known c.refused.ensures.text
    c.refused.ensures.status
