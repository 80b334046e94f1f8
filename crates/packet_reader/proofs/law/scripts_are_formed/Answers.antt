use Rattle.packet_reader.proofs.Forms.{scripts_are_formed}
use Rattle.packet_reader.proofs.law.scripts_are_formed.Goals as goal

pub returns : goal.returns
returns c = scripts_are_formed
