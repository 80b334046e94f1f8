use Rattle.packet_reader.proofs.Forms.{scripts_are_formed}
use Rattle.cluster_open.proofs.reading.read_rows.Goals as goal

pub returns-clause-script : goal.returns-clause-script
returns-clause-script c = scripts_are_formed c.args.mode c.in_ok-opening.opening.shape _ c.in_ok-script.script.items c.in_ok-script.ensures.script
