use Rattle.packet_reader.proofs.FirstBadFacts.{script-law}
use Rattle.packet_reader.specs.Events.{events_in}
use Rattle.packet_reader.proofs.law.first_bad_row_law.Goals as goal

pub returns : goal.returns
returns c mode shape = script-law (events_in mode shape)
